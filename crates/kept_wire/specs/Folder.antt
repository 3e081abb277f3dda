-- Where the name of a file stands.
use Rattle.std.specs.Prelude.{ℕ, List, [], ◌∷◌, unwrap_or, codes}
use Rattle.std.specs.Path.{path_parent}

-- a path, or `.` where it is empty
abbrev pub or_here : List ℕ → List ℕ
or_here [] = codes "."
or_here (byte ∷ bytes) = byte ∷ bytes

-- the folder that the file of a path lies in: that of `a/b/state` is `a/b`, of `/state` `/`, and of `state` `.`
abbrev pub folder_in : List ℕ → List ℕ
folder_in path = or_here (unwrap_or (path_parent path) [])

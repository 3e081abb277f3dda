-- Callers read all of these; of Projects, `is_same_kind`, `many` and `AreColumns` are cited by private contracts and by `Lacks`.
pub mod Filters
pub mod Projects
pub mod Made
pub mod Stages
pub mod Texts

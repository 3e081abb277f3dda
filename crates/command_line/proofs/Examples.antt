-- Words and what is made of them, by the definition alone; q and r are any texts.
use Rattle.std.proofs.Common.{◌≡◌, ◌++◌, true, false, refl, [], ◌∷◌, codes, Some}
use Rattle.clap.specs.Walk.{Text}
use Rattle.clap.proofs.OnLiterals.{clap_on_literals}
use Rattle.command_line.specs.Words.{are_read, are_taken, value_of}

module _ (q r : Text) where
  abbrev query : Text
  query = codes "--query=" ++ q

  the_query_is_taken : are_taken (codes "tempo" ∷ query ∷ []) ≡ true
  unfolding clap_on_literals are_taken are_read
  the_query_is_taken = refl

  the_query_is_what_stands_there : value_of (codes "tempo" ∷ codes "--header" ∷ query ∷ codes "--" ∷ []) (codes "query") ≡ Some q
  unfolding clap_on_literals value_of
  the_query_is_what_stands_there = refl

  a_query_stands_once : are_taken (codes "tempo" ∷ query ∷ (codes "--query=" ++ r) ∷ []) ≡ false
  unfolding clap_on_literals are_taken are_read
  a_query_stands_once = refl

  a_header_stands_once : are_taken (codes "tempo" ∷ query ∷ codes "--header" ∷ codes "--header" ∷ []) ≡ false
  unfolding clap_on_literals are_taken are_read
  a_header_stands_once = refl

  a_header_has_no_value : are_taken (codes "tempo" ∷ query ∷ (codes "--header=" ++ r) ∷ []) ≡ false
  unfolding clap_on_literals are_taken are_read
  a_header_has_no_value = refl

  names_are_whole : are_taken (codes "tempo" ∷ (codes "--quer=" ++ q) ∷ []) ≡ false
  unfolding clap_on_literals are_taken are_read
  names_are_whole = refl

  help_is_not_taken : are_taken (codes "tempo" ∷ query ∷ codes "--help" ∷ []) ≡ false
  unfolding clap_on_literals are_taken are_read
  help_is_not_taken = refl

  no_version_is_known : are_taken (codes "tempo" ∷ query ∷ codes "--version" ∷ []) ≡ false
  unfolding clap_on_literals are_taken are_read
  no_version_is_known = refl

  no_other_word_is_taken : are_taken (codes "tempo" ∷ query ∷ codes "more" ∷ []) ≡ false
  unfolding clap_on_literals are_taken are_read
  no_other_word_is_taken = refl

  another_mode_is_not_taken : are_taken (codes "tempo" ∷ query ∷ codes "--mode=samples" ∷ []) ≡ false
  unfolding clap_on_literals are_taken are_read
  another_mode_is_not_taken = refl

  a_batch_of_0_is_not_taken : are_taken (codes "tempo" ∷ query ∷ codes "--batch" ∷ codes "0" ∷ []) ≡ false
  unfolding clap_on_literals are_taken are_read
  a_batch_of_0_is_not_taken = refl

  a_batch_of_8193_is_not_taken : are_taken (codes "tempo" ∷ query ∷ codes "--batch" ∷ codes "8193" ∷ []) ≡ false
  unfolding clap_on_literals are_taken are_read
  a_batch_of_8193_is_not_taken = refl

  no_17_workers_are_taken : are_taken (codes "tempo" ∷ query ∷ codes "--workers" ∷ codes "17" ∷ []) ≡ false
  unfolding clap_on_literals are_taken are_read
  no_17_workers_are_taken = refl

no_state_is_kept_in_another_mode : are_taken (codes "tempo" ∷ codes "--query=q" ∷ codes "--checkpoint=state" ∷ codes "--mode=explain" ∷ []) ≡ false
unfolding clap_on_literals are_taken are_read
no_state_is_kept_in_another_mode = refl

every_goes_with_a_checkpoint : are_taken (codes "tempo" ∷ codes "--query=q" ∷ codes "--every=1" ∷ []) ≡ false
unfolding clap_on_literals are_taken are_read
every_goes_with_a_checkpoint = refl

a_checkpoint_alone_is_taken : are_taken (codes "tempo" ∷ codes "--query=q" ∷ codes "--checkpoint=state" ∷ []) ≡ true
unfolding clap_on_literals are_taken are_read
a_checkpoint_alone_is_taken = refl

a_query_has_to_stand : are_taken (codes "tempo" ∷ codes "--header" ∷ []) ≡ false
unfolding clap_on_literals are_taken are_read
a_query_has_to_stand = refl

a_value_begins_with_no_hyphen : are_taken (codes "tempo" ∷ codes "--query" ∷ codes "-q" ∷ []) ≡ false
unfolding clap_on_literals are_taken are_read
a_value_begins_with_no_hyphen = refl

a_hyphen_is_a_value : value_of (codes "tempo" ∷ codes "--query" ∷ codes "-" ∷ []) (codes "query") ≡ Some (codes "-")
unfolding clap_on_literals value_of
a_hyphen_is_a_value = refl

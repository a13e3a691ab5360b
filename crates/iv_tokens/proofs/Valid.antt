-- Whose end has passed is not valid.
use Rattle.std.proofs.Common.{◌≡◌, ℕ, ◌<◌, true, List, Option, Some, None, refl, arith}
use Rattle.std.specs.Prelude.{All, Contains, IfSome, filter}
use Rattle.std.specs.List.{slice_index_or}
use Rattle.std.proofs.lemmas.Bool.Decides.{nat_tests}
use Rattle.std.proofs.lemmas.List.Elements.{All-contains_itself, All-filter, All-map, filter_passes}
use Rattle.iv_tokens.specs.Entries.{Entry, IsOfEntry, NoneIsValidBehindItsEnd, ends_after, is_valid}

in_time : (now : ℕ) (until : Option ℕ) → ends_after now until ≡ true → IfSome until (λ end. now < end)
in_time now None h = tt
in_time now (Some end) h = grind (arith, nat_tests)

of_entry : (now : ℕ) (es : List Entry) → All (λ e. IsOfEntry now es e.token) (filter (is_valid now) es)
of_entry now es = λ k d h. record {
  entry = slice_index_or (filter (is_valid now) es) k d;
  stands = All-filter (is_valid now) (Contains es) es (All-contains_itself es) k d h;
  token = refl;
  in_time = in_time now (slice_index_or (filter (is_valid now) es) k d).until (filter_passes (is_valid now) es k d h);
}

pub none_behind : NoneIsValidBehindItsEnd
none_behind now es = All-map (IsOfEntry now es) (λ e. e.token) (filter (is_valid now) es) (of_entry now es)

-- What a journal has where nothing is written.
use Rattle.std.proofs.Common.{◌≡◌, List, [], ◌++◌, Option, Some, None, option_map, append-nil, refl, ap, sym, subst}
use Rattle.iv_journal.specs.Journal.{Line}

pub option_map-append_none : (o : Option (List Line)) (xs : List Line) → xs ≡ [] → o ≡ option_map (λ ls. ls ++ xs) o
option_map-append_none None xs e = refl
option_map-append_none (Some ls) xs e = subst (λ (z : List Line). Some ls ≡ Some (ls ++ z)) (sym e) (ap Some (sym (append-nil ls)))

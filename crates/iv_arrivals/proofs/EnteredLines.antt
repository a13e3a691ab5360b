-- The lines of a request that is a step, one part after another.
use Rattle.std.proofs.Common.{◌≡◌, ◌∙◌, ℕ, Bool, true, false, cond, List, [], ◌∷◌, ◌++◌, Option, Some, None, is_some, ap, sym, append_assoc, append-nil}
use Rattle.std.specs.Prelude.{◌||◌}
use Rattle.std.proofs.lemmas.Bool.{false≢true}
use Rattle.iv_rows.specs.Options.{if_some}
use Rattle.iv_records.specs.Journal.{name_text, position_text}
use Rattle.iv_records.specs.Parsed.{part, text_of_request}
use Rattle.iv_journal.specs.Journal.{Line}
use Rattle.iv_once.specs.Names.{Named}
use Rattle.iv_arrivals.specs.Entering.{lines_entered}
use Rattle.iv_arrivals.specs.Speaking.{Asking}

-- what has no entry has no lines
pub none_entered : (a : Asking) (accepted : Bool) (name : Option Named) (p : ℕ) (ls : List Line) → (accepted || is_some name) ≡ false
    → ls ≡ ls ++ lines_entered a accepted name (Some p)
none_entered a true name p ls h = absurd (false≢true (sym h))
none_entered a false (Some n) p ls h = absurd (false≢true (sym h))
none_entered a false None p ls h = sym (append-nil ls)

three : (old first second third x y z : List Line) → first ≡ old ++ x → second ≡ first ++ y → third ≡ second ++ z → third ≡ old ++ (x ++ (y ++ z))
three old first second third x y z e f g = g ∙ (ap (λ k. k ++ z) (f ∙ ap (λ k. k ++ y) e) ∙ (append_assoc (old ++ x) y z ∙ append_assoc old x (y ++ z)))

abbrev end_of : ℕ → List Line
end_of p = record { is_last = true; text = position_text p } ∷ []

pub step_entered : (a : Asking) (accepted : Bool) (name : Option Named) (p : ℕ) (old first second third : List Line) → (accepted || is_some name) ≡ true
    → first ≡ old ++ cond accepted (part (text_of_request a.role a.line) ∷ []) [] → second ≡ first ++ if_some name [] (λ n. part (name_text n) ∷ [])
    → third ≡ second ++ end_of p → third ≡ old ++ lines_entered a accepted name (Some p)
step_entered a true None p old first second third h e f g = three old first second third (part (text_of_request a.role a.line) ∷ []) [] (end_of p) e f g
step_entered a true (Some n) p old first second third h e f g =
    three old first second third (part (text_of_request a.role a.line) ∷ []) (part (name_text n) ∷ []) (end_of p) e f g
step_entered a false (Some n) p old first second third h e f g = three old first second third [] (part (name_text n) ∷ []) (end_of p) e f g
step_entered a false None p old first second third h e f g = absurd (false≢true h)

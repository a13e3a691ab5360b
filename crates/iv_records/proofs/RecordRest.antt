-- The rest of a record is read line by line.
use Rattle.std.proofs.Common.{◌≡◌, true, false, cond, List, ◌∷◌, Option, Some, None, ap, ◌∙◌, sym}
use Rattle.std.specs.Prelude.{option_and_then}
use Rattle.iv_journal.specs.Journal.{Line}
use Rattle.iv_records.specs.Journal.{Entry}
use Rattle.iv_records.specs.Parsed.{Text, record_from, text_in, with_text}

-- what is read of the rest, after what was read, is what is read of all
abbrev pub IsFilling : (e : Entry) (ls : List Line) (f : Entry) (ms : List Line) → Type 0
IsFilling e ls f ms = record_from e ls ≡ record_from f ms

by_text : (e : Entry) (l : Line) (ls : List Line) (o : Option Text) (all : Option (Entry × List Line)) → text_in l.text ≡ o → record_from e (l ∷ ls) ≡ all
    → option_and_then (λ t. option_and_then (λ f. cond l.is_last (Some (f, ls)) (record_from f ls)) (with_text e t)) o ≡ all
by_text e l ls o all h k = ap (option_and_then (λ t. option_and_then (λ f. cond l.is_last (Some (f, ls)) (record_from f ls)) (with_text e t))) (sym h) ∙ k

by_entry : (e : Entry) (l : Line) (ls : List Line) (t : Text) (o : Option Entry) (all : Option (Entry × List Line)) → text_in l.text ≡ Some t → with_text e t ≡ o
    → record_from e (l ∷ ls) ≡ all → option_and_then (λ f. cond l.is_last (Some (f, ls)) (record_from f ls)) o ≡ all
by_entry e l ls t o all h w k = ap (option_and_then (λ f. cond l.is_last (Some (f, ls)) (record_from f ls))) (sym w) ∙ by_text e l ls (Some t) all h k

-- no text of a journal
pub fill_none : (e : Entry) (l : Line) (ls : List Line) (all : Option (Entry × List Line)) → text_in l.text ≡ None → record_from e (l ∷ ls) ≡ all → None ≡ all
fill_none e l ls all h k = by_text e l ls None all h k

-- one that may not stand there
pub fill_not : (e : Entry) (l : Line) (ls : List Line) (t : Text) (all : Option (Entry × List Line)) → text_in l.text ≡ Some t → with_text e t ≡ None → record_from e (l ∷ ls) ≡ all → None ≡ all
fill_not e l ls t all h w k = by_entry e l ls t None all h w k

-- the last one
pub fill_last : (e f : Entry) (l : Line) (ls : List Line) (t : Text) (all : Option (Entry × List Line)) → text_in l.text ≡ Some t → with_text e t ≡ Some f → l.is_last ≡ true
    → record_from e (l ∷ ls) ≡ all → Some (f, ls) ≡ all
fill_last e f l ls t all h w last k = ap (λ b. cond b (Some (f, ls)) (record_from f ls)) (sym last) ∙ by_entry e l ls t (Some f) all h w k

-- one more
pub fill_on : (e f : Entry) (l : Line) (ls : List Line) (t : Text) (all : Option (Entry × List Line)) → text_in l.text ≡ Some t → with_text e t ≡ Some f → l.is_last ≡ false
    → record_from e (l ∷ ls) ≡ all → record_from f ls ≡ all
fill_on e f l ls t all h w more k = ap (λ b. cond b (Some (f, ls)) (record_from f ls)) (sym more) ∙ by_entry e l ls t (Some f) all h w k

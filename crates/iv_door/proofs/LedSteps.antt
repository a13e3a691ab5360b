-- What is said of entries that are decided, as lines of a journal and as a keeper says it.
use Rattle.std.proofs.Common.{◌≡◌, ◌<◌, ℕ, ◌+◌, cond, get_or, length, take, List, [], ◌∷◌, ◌++◌, map, Some, refl, ap, ◌∙◌, sym, append_assoc, append-nil}
use Rattle.std.specs.Prelude.{false, flat_map, true}
use Rattle.std.proofs.lemmas.List.{take_more}
use Rattle.std.proofs.lemmas.List.Concat.{flat_map-append}
use Rattle.iv_rows.specs.Options.{if_some}
use Rattle.iv_journal.specs.Journal.{Line}
use Rattle.iv_records.specs.Journal.{Entry, journal_of, name_text, position_text, record_of, request_text, texts_of}
use Rattle.iv_gate.specs.Arriving.{AreNext}
use Rattle.iv_door.specs.Leading.{LeadsAsAKeeper, line_from, lines_from, said_line, step_said, steps_said}
use Rattle.iv_door.specs.Said.{brings, ends}

abbrev part : List ℕ → Line
part t = record { is_last = false; text = t }

abbrev last : List ℕ → Line
last t = record { is_last = true; text = t }

recorded : (ts : List (List ℕ)) (t : List ℕ) → record_of (ts ++ t ∷ []) ≡ map part ts ++ last t ∷ []
recorded [] t = refl
recorded (u ∷ []) t = refl
recorded (u ∷ v ∷ ts) t = ap (λ z. part u ∷ z) (recorded (v ∷ ts) t)

-- parts are brought
brought : (p : ℕ) (ts : List (List ℕ)) (ls : List Line) → lines_from p (map part ts ++ ls) ≡ flat_map said_line (map brings ts) ++ lines_from p ls
brought p [] ls = refl
brought p (t ∷ ts) ls =
    ap (λ z. said_line (brings t) ++ z) (brought p ts ls) ∙ sym (append_assoc (said_line (brings t)) (flat_map said_line (map brings ts)) (lines_from p ls))

-- a record is a step
step_lines : (p : ℕ) (e : Entry) (ls : List Line) → e.position ≡ Some (p + 1)
    → lines_from p (record_of (texts_of e) ++ ls) ≡ flat_map said_line (step_said p e) ++ lines_from (p + 1) ls
step_lines p e ls h =
    let ts : List (List ℕ) = map request_text e.requests ++ map name_text e.names in
    let end : List ℕ = position_text (p + 1) in
    let texts : texts_of e ≡ ts ++ end ∷ [] =
    ap (λ o. map request_text e.requests ++ (map name_text e.names ++ if_some o [] (λ q. position_text q ∷ []))) h
    ∙ sym (append_assoc (map request_text e.requests) (map name_text e.names) (end ∷ [])) in
    let whole : record_of (texts_of e) ≡ map part ts ++ last end ∷ [] = ap record_of texts ∙ recorded ts end in
    ap (λ z. lines_from p (z ++ ls)) whole
    ∙ (ap (lines_from p) (append_assoc (map part ts) (last end ∷ []) ls)
    ∙ (brought p ts (last end ∷ ls)
    ∙ (sym (append_assoc (flat_map said_line (map brings ts)) (said_line (ends p (p + 1))) (lines_from (p + 1) ls))
    ∙ ap (λ z. z ++ lines_from (p + 1) ls)
    (ap (λ z. flat_map said_line (map brings ts) ++ z) (sym (append-nil (said_line (ends p (p + 1))))) ∙ sym (flat_map-append said_line (map brings ts) (ends p (p + 1) ∷ []))))))

pub led_lines : LeadsAsAKeeper
led_lines p [] n = refl
led_lines p (e ∷ es) n =
    step_lines p e (journal_of es) n.0
    ∙ (ap (λ z. flat_map said_line (step_said p e) ++ z) (led_lines (p + 1) es n.1) ∙ sym (flat_map-append said_line (step_said p e) (steps_said (p + 1) es)))

-- ---- one line more

-- where the log stands after lines
abbrev pub reached : ℕ → List Line → ℕ
reached p [] = p
reached p (l ∷ ls) = reached (cond l.is_last (p + 1) p) ls

pub lines_further : (p : ℕ) (ls : List Line) (l : Line) → lines_from p (ls ++ l ∷ []) ≡ lines_from p ls ++ line_from (reached p ls) l
lines_further p [] l = append-nil (line_from p l)
lines_further p (k ∷ ls) l =
    ap (λ z. line_from p k ++ z) (lines_further (cond k.is_last (p + 1) p) ls l)
    ∙ sym (append_assoc (line_from p k) (lines_from (cond k.is_last (p + 1) p) ls) (line_from (reached (cond k.is_last (p + 1) p) ls) l))

pub reached_further : (p : ℕ) (ls : List Line) (l : Line) → reached p (ls ++ l ∷ []) ≡ cond l.is_last (reached p ls + 1) (reached p ls)
reached_further p [] l = refl
reached_further p (k ∷ ls) l = reached_further (cond k.is_last (p + 1) p) ls l

pub steps_further : (from : ℕ) (xs : List Line) (i : ℕ) (l : Line) (old out now : List ℕ) (at next : ℕ) → i < length xs → get_or xs i l ≡ l
    → out ≡ old ++ lines_from from (take i xs) → at ≡ reached from (take i xs) → now ≡ out ++ line_from at l → next ≡ cond l.is_last (at + 1) at
    → (now ≡ old ++ lines_from from (take (i + 1) xs)) × (next ≡ reached from (take (i + 1) xs))
steps_further from xs i l old out now at next lt is o a n m =
    let ys = take i xs in
    let more : take (i + 1) xs ≡ ys ++ l ∷ [] = take_more xs i l lt ∙ ap (λ x. ys ++ x ∷ []) is in (
      n ∙ ((λ j. o j ++ line_from (a j) l) ∙ (append_assoc old (lines_from from ys) (line_from (reached from ys) l)
          ∙ ap (λ z. old ++ z) (sym (lines_further from ys l) ∙ ap (lines_from from) (sym more)))),
      m ∙ ((λ j. cond l.is_last (a j + 1) (a j)) ∙ (sym (reached_further from ys l) ∙ ap (reached from) (sym more))),
    )

-- The lines before the first entry, and those after them, are read back.
use Rattle.std.proofs.Common.{◌≡◌, ℕ, suc, Bool, true, false, cond, List, [], ◌∷◌, ◌++◌, ◌+◌, ◌<◌, ◌≤◌, append_assoc, append-nil, drop, drop-drop, drop_of_length-le, get_or, length, map, Option, Some, None, is_some, refl, ap, ◌∙◌, sym, arith}
use Rattle.std.specs.Prelude.{IfSome, bytes_eq}
use Rattle.std.specs.Int.{from_bool}
use Rattle.std.specs.List.{AllByRecursion}
use Rattle.std.proofs.lemmas.Bool.{false≢true}
use Rattle.std.proofs.lemmas.List.{at_drop_more}
use Rattle.std.proofs.lemmas.Slice.Eq.{bytes_eq-Decides}
use Rattle.iv_rows.specs.Options.{if_some}
use Rattle.iv_journal.specs.Journal.{Line}
use Rattle.iv_records.proofs.CutParts.{Passed-option_and_then}
use Rattle.iv_head.specs.Begun.{Begun, Followed, IsBegun, IsFollowed, IsReadBack, IsStanding, SaysNothing, Standing, begun_in, followed_in, line, lines_of, log_in, log_text, said_log, said_standing, standing_in, standing_text, standings_in}
use Rattle.iv_head.proofs.Entries.{SaysNothing-journal_of}
use Rattle.iv_head.proofs.StandingTexts.{followed_in-log_text, standing_in-standing_text}

abbrev said : List Standing → List Line
said ss = map (λ (s : Standing). line (standing_text s)) ss

-- ---- read back

standings_back : (ss : List Standing) (ls : List Line) → AllByRecursion IsStanding ss → standings_in ls ≡ [] → standings_in (said ss ++ ls) ≡ ss
standings_back [] ls a n = n
standings_back (s ∷ ss) ls a n =
    ap (λ o. if_some o [] (λ t. t ∷ standings_in (said ss ++ ls))) (standing_in-standing_text s a.0) ∙ ap (λ z. s ∷ z) (standings_back ss ls a.1 n)

behind_said : (ss : List Standing) (ls : List Line) → drop (length ss) (said ss ++ ls) ≡ ls
behind_said [] ls = refl
behind_said (s ∷ ss) ls = behind_said ss ls

-- where names stand is no log
no_log : (ss : List Standing) (ls : List Line) → log_in ls ≡ None → log_in (said ss ++ ls) ≡ None
no_log [] ls n = n
no_log (s ∷ ss) ls n = refl

-- a log, standings, and the lines after as many as these
abbrev told : Option Followed → List Standing → List Line → Begun × List Line
told log ss ls = (record { log = log; standings = ss }, drop (length ss) ls)

abbrev with_log : Option Followed → List Line → Begun × List Line
with_log log ls = told log (standings_in (cond (is_some log) (drop 1 ls) ls)) (cond (is_some log) (drop 1 ls) ls)

abbrev pair : Begun → List Line → Begun × List Line
pair b ls = (b, ls)

rest_back : (log : Option Followed) (ss : List Standing) (ls : List Line) → AllByRecursion IsStanding ss → standings_in ls ≡ []
    → told log (standings_in (said ss ++ ls)) (said ss ++ ls) ≡ pair (record { log = log; standings = ss }) ls
rest_back log ss ls a n =
    ap (λ z. told log z (said ss ++ ls)) (standings_back ss ls a n) ∙ ap (pair (record { log = log; standings = ss })) (behind_said ss ls)

begun_back : (b : Begun) (ls : List Line) → IsBegun b → SaysNothing ls → begun_in (lines_of b ++ ls) ≡ (b, ls)
begun_back b ls w n = by b.log b.standings w.log w.standings
  where
    by : (log : Option Followed) (ss : List Standing) → IfSome log IsFollowed → AllByRecursion IsStanding ss
        → begun_in (lines_of (record { log = log; standings = ss }) ++ ls) ≡ pair (record { log = log; standings = ss }) ls
    by None ss f a = ap (λ o. with_log o (said ss ++ ls)) (no_log ss ls n.0) ∙ rest_back None ss ls a n.1
    by (Some f) ss is a = ap (λ o. with_log o (line (log_text f) ∷ (said ss ++ ls))) (followed_in-log_text f is) ∙ rest_back (Some f) ss ls a n.1

-- ---- what is read was written so

one_line : (l : Line) (text : List ℕ) → l.is_last ≡ true → l.text ≡ text → l ≡ line text
one_line l text e h = λ i. record { is_last = e i; text = h i }

standing_sound : (text : List ℕ) (s : Standing) → standing_in text ≡ Some s → text ≡ standing_text s
standing_sound text s h = sym ((bytes_eq-Decides (standing_text s) text).0 (Passed-option_and_then (λ (t : Standing). bytes_eq (standing_text t) text) (said_standing text) s h).passes)

log_sound : (text : List ℕ) (f : Followed) → followed_in text ≡ Some f → text ≡ log_text f
log_sound text f h =
    sym ((bytes_eq-Decides (log_text f) text).0 (Passed-option_and_then (λ (g : Followed). bytes_eq (log_text g) text) (said_log text) f h).passes)

abbrev AreWritten : List Line → List Standing → Type 0
AreWritten ls ss = ls ≡ said ss ++ drop (length ss) ls

standings_written : (ls : List Line) → AreWritten ls (standings_in ls)
standings_written [] = refl
standings_written (l ∷ ls) = by l.is_last refl (standings_written ls)
  where
    some : l.is_last ≡ true → (o : Option Standing) → standing_in l.text ≡ o → AreWritten ls (standings_in ls) → AreWritten (l ∷ ls) (if_some o [] (λ s. s ∷ standings_in ls))
    some e None h more = refl
    some e (Some s) h more = λ i. one_line l (standing_text s) e (standing_sound l.text s h) i ∷ more i

    by : (b : Bool) → l.is_last ≡ b → AreWritten ls (standings_in ls) → AreWritten (l ∷ ls) (cond b (if_some (standing_in l.text) [] (λ s. s ∷ standings_in ls)) [])
    by false e more = refl
    by true e more = some e (standing_in l.text) refl more

abbrev IsWrittenSo : List Line → Option Followed → Type 0
IsWrittenSo ls log = ls ≡ lines_of (with_log log ls).0 ++ (with_log log ls).1

log_written : (ls : List Line) → IsWrittenSo ls (log_in ls)
log_written [] = refl
log_written (l ∷ ls) = by l.is_last refl
  where
    some : l.is_last ≡ true → (o : Option Followed) → followed_in l.text ≡ o → IsWrittenSo (l ∷ ls) o
    some e None h = standings_written (l ∷ ls)
    some e (Some f) h = λ i. one_line l (log_text f) e (log_sound l.text f h) i ∷ standings_written ls i

    by : (b : Bool) → l.is_last ≡ b → IsWrittenSo (l ∷ ls) (cond b (followed_in l.text) None)
    by false e = standings_written (l ∷ ls)
    by true e = some e (followed_in l.text) refl

-- ---- line after line

next : (ls : List Line) (i : ℕ) (l : Line) → i < length ls → l ≡ get_or ls i l → drop i ls ≡ l ∷ drop (i + 1) ls
next ls i l h e = at_drop_more (λ z. z) ls i l h ∙ ap (λ z. z ∷ drop (i + 1) ls) (sym e)

abbrev with_first : Bool → Option Standing → List Line → List Standing
with_first last said ls = cond last (if_some said [] (λ s. s ∷ standings_in ls)) []

first_of : (ls : List Line) (i : ℕ) (l : Line) (last : Bool) (said : Option Standing) → i < length ls → l ≡ get_or ls i l → l.is_last ≡ last → standing_in l.text ≡ said
    → standings_in (drop i ls) ≡ with_first last said (drop (i + 1) ls)
first_of ls i l last said h e f g = ap standings_in (next ls i l h e) ∙ (λ j. with_first (f j) (g j) (drop (i + 1) ls))

-- a part of a record says no standing
pub part_ends : (ls : List Line) (i : ℕ) (l : Line) (out all : List Standing) → i < length ls → l ≡ get_or ls i l → l.is_last ≡ false → all ≡ out ++ standings_in (drop i ls) → out ≡ all
part_ends ls i l out all h e f k = sym (k ∙ (ap (λ z. out ++ z) (first_of ls i l false (standing_in l.text) h e f refl) ∙ append-nil out))

-- nor does a line of another kind
pub other_ends : (ls : List Line) (i : ℕ) (l : Line) (out all : List Standing) → i < length ls → l ≡ get_or ls i l → l.is_last ≡ true → None ≡ standing_in l.text
    → all ≡ out ++ standings_in (drop i ls) → out ≡ all
other_ends ls i l out all h e f g k = sym (k ∙ (ap (λ z. out ++ z) (first_of ls i l true None h e f (sym g)) ∙ append-nil out))

pub standing_more : (ls : List Line) (i : ℕ) (l : Line) (s : Standing) (out grown all : List Standing) → i < length ls → l ≡ get_or ls i l → l.is_last ≡ true → Some s ≡ standing_in l.text
    → all ≡ out ++ standings_in (drop i ls) → grown ≡ out ++ s ∷ [] → all ≡ grown ++ standings_in (drop (i + 1) ls)
standing_more ls i l s out grown all h e f g k m =
    k ∙ (ap (λ z. out ++ z) (first_of ls i l true (Some s) h e f (sym g))
    ∙ (sym (append_assoc out (s ∷ []) (standings_in (drop (i + 1) ls))) ∙ ap (λ z. z ++ standings_in (drop (i + 1) ls)) (sym m)))

pub all_ends : (ls : List Line) (i : ℕ) (out all : List Standing) → length ls ≤ i → all ≡ out ++ standings_in (drop i ls) → out ≡ all
all_ends ls i out all h k = sym (k ∙ (ap (λ z. out ++ standings_in z) (drop_of_length-le ls h) ∙ append-nil out))

-- ---- how many lines say it

standings_short : (ls : List Line) → length (standings_in ls) ≤ length ls
standings_short [] = omega arith
standings_short (l ∷ ls) = by l.is_last (standing_in l.text) (standings_short ls)
  where
    by : (b : Bool) (o : Option Standing) → length (standings_in ls) ≤ length ls → length (cond b (if_some o [] (λ s. s ∷ standings_in ls)) []) ≤ suc (length ls)
    by false o h = omega arith
    by true None h = omega arith
    by true (Some s) h = omega (arith, h)

pub said_within : (ls : List Line) (has : Bool) (count : ℕ) → has ≡ is_some (log_in ls) → count ≡ from_bool has + length (standings_in (cond has (drop 1 ls) ls)) → count ≤ length ls
said_within ls false count h e = let short = standings_short ls in omega (arith, short, e)
said_within [] true count h e = absurd (false≢true (sym h))
said_within (l ∷ ls) true count h e = let short = standings_short ls in omega (arith, short, e)

behind_all : (ls : List Line) (has : Bool) (n count : ℕ) → count ≡ from_bool has + n → drop count ls ≡ drop n (cond has (drop 1 ls) ls)
behind_all ls false n count e = ap (λ m. drop m ls) (let k : count ≡ 0 + n = e in let same : count ≡ n = omega (arith, k) in same)
behind_all ls true n count e = ap (λ m. drop m ls) e ∙ sym (drop-drop n 1 ls)

pub begun_is : (ls : List Line) (log : Option Followed) (has : Bool) (ss : List Standing) (count : ℕ) → log ≡ log_in ls → has ≡ is_some log → ss ≡ standings_in (cond has (drop 1 ls) ls)
    → count ≡ from_bool has + length ss → pair (record { log = log; standings = ss }) (drop count ls) ≡ begun_in ls
begun_is ls log has ss count l h s e =
    ap (pair (record { log = log; standings = ss })) (behind_all ls has (length ss) count e)
    ∙ (ap (λ z. told log z (cond has (drop 1 ls) ls)) s
    ∙ (ap (λ b. told log (standings_in (cond b (drop 1 ls) ls)) (cond b (drop 1 ls) ls)) h ∙ ap (λ o. with_log o ls) l))

pub read_back : IsReadBack
read_back = record { back = begun_back; entries = SaysNothing-journal_of; written = log_written }

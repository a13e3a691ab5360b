-- The record of an entry is read back, whatever follows it, and nothing else is read.
use Rattle.std.proofs.Common.{◌≡◌, ℕ, suc, arith, length, Bool, true, false, cond, List, [], ◌∷◌, ◌++◌, map, Option, Some, None, refl, ap, ◌∙◌, sym, subst, append_assoc, append-nil}
use Rattle.std.specs.Prelude.{◌≢◌, ◌==◌, OnOk, Result, Ok, Err, option_and_then}
use Rattle.std.proofs.lemmas.Bool.{ne_eqb}
use Rattle.std.specs.List.{AllByRecursion}
use Rattle.std.proofs.lemmas.List.{map-append}
use Rattle.std.proofs.lemmas.Simd.{map-map}
use Rattle.iv_rows.specs.Options.{if_some}
use Rattle.iv_once.specs.Names.{Named}
use Rattle.iv_journal.specs.Journal.{Line}
use Rattle.iv_records.specs.Journal.{Entry, IsEntry, IsNamed, IsRequest, Request, name_text, position_text, record_of, request_text, texts_of}
use Rattle.iv_records.specs.Laws.{Begins, ReadsBack}
use Rattle.iv_records.specs.Names.{is_count}
use Rattle.iv_records.specs.Parsed.{Text, of_request, of_name, of_position, no_entry, part, record_from, record_in, text_in, with_text}
use Rattle.iv_records.proofs.CutParts.{same-Some, not_None-Some}
use Rattle.iv_records.proofs.JournalTexts.{Is, text_in-name_text, text_in-position_text, text_in-request_text, Is-text_in}

abbrev pub made : List Request → List Named → Option ℕ → Entry
made qs ns p = record { requests = qs; names = ns; position = p }

abbrev pub position_texts : Option ℕ → List (List ℕ)
position_texts p = if_some p [] (λ n. position_text n ∷ [])

abbrev pub name_texts : List Named → Option ℕ → List (List ℕ)
name_texts ns p = map name_text ns ++ position_texts p

no_cons : {X : Type 0} (x : X) (xs : List X) → (x ∷ xs) ≡ [] → ⊥
no_cons x xs h = cc h

pub cons_some : {X : Type 0} (x : X) (xs : List X) → (x ∷ xs) ≢ []
cons_some x xs = λ h. no_cons x xs h

-- ---- lines of a record

record_next : (t : List ℕ) (ts : List (List ℕ)) → (ts ≡ [] → ⊥) → record_of (t ∷ ts) ≡ part t ∷ record_of ts
record_next t [] h = absurd (h refl)
record_next t (u ∷ us) h = refl

pub record_pushed : (ts : List (List ℕ)) (t : List ℕ) → record_of (ts ++ t ∷ []) ≡ map part ts ++ record { is_last = true; text = t } ∷ []
record_pushed [] t = refl
record_pushed (u ∷ us) t = record_next u (us ++ t ∷ []) (some_behind us) ∙ ap (λ z. part u ∷ z) (record_pushed us t)
  where
    some_behind : (xs : List (List ℕ)) → (xs ++ t ∷ []) ≡ [] → ⊥
    some_behind [] h = no_cons t [] h
    some_behind (x ∷ xs) h = no_cons x (xs ++ t ∷ []) h

abbrev last_line : List ℕ → Line
last_line t = record { is_last = true; text = t }

-- requests, names and a position, one after another, are the record of a step
pub OnOk-record_of : {E : Type 0} (r : Result (Unit {0}) E) (qs : List Request) (ns : List Named) (p : ℕ) (t a b n : List Line)
    → a ≡ t ++ map (λ q. part (request_text q)) qs → b ≡ a ++ map (λ e. part (name_text e)) ns → OnOk r (n ≡ b ++ last_line (position_text p) ∷ [])
    → OnOk r (n ≡ t ++ record_of (texts_of (made qs ns (Some p))))
OnOk-record_of (Err e) qs ns p t a b n h k l = tt
OnOk-record_of (Ok u) qs ns p t a b n h k l =
    let last = last_line (position_text p) ∷ [] in
    let first = map (λ q. part (request_text q)) qs in
    let second = map (λ e. part (name_text e)) ns in
    let whole : record_of (texts_of (made qs ns (Some p))) ≡ first ++ (second ++ last) =
    ap record_of (sym (append_assoc (map request_text qs) (map name_text ns) (position_text p ∷ [])))
    ∙ (record_pushed (map request_text qs ++ map name_text ns) (position_text p)
    ∙ (ap (λ z. z ++ last) (map-append part (map request_text qs) (map name_text ns) ∙ (λ i. map-map part request_text qs i ++ map-map part name_text ns i))
    ∙ append_assoc first second last)) in
    l ∙ (ap (λ z. z ++ last) (k ∙ ap (λ z. z ++ second) h)
    ∙ (append_assoc (t ++ first) second last ∙ (append_assoc t first (second ++ last) ∙ ap (λ z. t ++ z) (sym whole))))

-- ---- what was written is read

-- one text more is read, and then the rest of the record, if it has any
one_text : (e f : Entry) (t : List ℕ) (x : Text) (ts : List (List ℕ)) (rest : List Line) (out : Option (Entry × List Line)) → text_in t ≡ Some x → with_text e x ≡ Some f
    → (ts ≡ [] → Some (f, rest) ≡ out) → ((ts ≡ [] → ⊥) → record_from f (record_of ts ++ rest) ≡ out) → record_from e (record_of (t ∷ ts) ++ rest) ≡ out
one_text e f t x [] rest out a b ends goes =
    ap (option_and_then (λ y. option_and_then (λ g. Some (g, rest)) (with_text e y))) a ∙ (ap (option_and_then (λ g. Some (g, rest))) b ∙ ends refl)
one_text e f t x (u ∷ us) rest out a b ends goes =
    ap (option_and_then (λ y. option_and_then (λ g. record_from g (record_of (u ∷ us) ++ rest)) (with_text e y))) a
    ∙ (ap (option_and_then (λ g. record_from g (record_of (u ∷ us) ++ rest))) b ∙ goes (λ h. no_cons u us h))

abbrev IsPosition : Option ℕ → Type 0
IsPosition p = if_some p true is_count ≡ true

position_left : (qs : List Request) (ns : List Named) (p : ℕ) (rest : List Line) → IsPosition (Some p)
    → record_from (made qs ns None) (record_of (position_text p ∷ []) ++ rest) ≡ Some (made qs ns (Some p), rest)
position_left qs ns p rest h =
    one_text (made qs ns None) (made qs ns (Some p)) (position_text p) (of_position p) [] rest (Some (made qs ns (Some p), rest)) (text_in-position_text p h) refl (λ _. refl) (λ n. absurd (n refl))

names_left : (qs : List Request) (ns more : List Named) (p : Option ℕ) (rest : List Line) → AllByRecursion IsNamed more → IsPosition p → (name_texts more p ≡ [] → ⊥)
    → record_from (made qs ns None) (record_of (name_texts more p) ++ rest) ≡ Some (made qs (ns ++ more) p, rest)
names_left qs ns [] None rest w h some = absurd (some refl)
names_left qs ns [] (Some p) rest w h some = position_left qs ns p rest h ∙ ap (λ z. Some (made qs z (Some p), rest)) (sym (append-nil ns))
names_left qs ns (n ∷ more) p rest w h some =
    one_text (made qs ns None) (made qs (ns ++ n ∷ []) None) (name_text n) (of_name n) (name_texts more p) rest (Some (made qs (ns ++ n ∷ more) p, rest)) (text_in-name_text n w.0) refl
    (λ e. ended more p e)
    (λ s. names_left qs (ns ++ n ∷ []) more p rest w.1 h s ∙ ap (λ z. Some (made qs z p, rest)) (append_assoc ns (n ∷ []) more))
  where
    ended : (later : List Named) (o : Option ℕ) → name_texts later o ≡ []
        → ◌≡◌ {A = Option (Entry × List Line)} (Some (made qs (ns ++ n ∷ []) None, rest)) (Some (made qs (ns ++ n ∷ later) o, rest))
    ended [] None e = refl
    ended [] (Some q) e = absurd (no_cons (position_text q) [] e)
    ended (m ∷ ms) o e = absurd (no_cons (name_text m) (name_texts ms o) e)

requests_left : (qs more : List Request) (ns : List Named) (p : Option ℕ) (rest : List Line) → AllByRecursion IsRequest more → AllByRecursion IsNamed ns → IsPosition p
    → (map request_text more ++ name_texts ns p ≡ [] → ⊥)
    → record_from (made qs [] None) (record_of (map request_text more ++ name_texts ns p) ++ rest) ≡ Some (made (qs ++ more) ns p, rest)
requests_left qs [] ns p rest w v h some = names_left qs [] ns p rest v h some ∙ ap (λ z. Some (made z ns p, rest)) (sym (append-nil qs))
requests_left qs (q ∷ more) ns p rest w v h some =
    one_text (made qs [] None) (made (qs ++ q ∷ []) [] None) (request_text q) (of_request q) (map request_text more ++ name_texts ns p) rest (Some (made (qs ++ q ∷ more) ns p, rest))
    (text_in-request_text q w.0) refl (λ e. ended more ns p e)
    (λ s. requests_left (qs ++ q ∷ []) more ns p rest w.1 v h s ∙ ap (λ z. Some (made z ns p, rest)) (append_assoc qs (q ∷ []) more))
  where
    ended : (later : List Request) (ms : List Named) (o : Option ℕ) → map request_text later ++ name_texts ms o ≡ []
        → ◌≡◌ {A = Option (Entry × List Line)} (Some (made (qs ++ q ∷ []) [] None, rest)) (Some (made (qs ++ q ∷ later) ms o, rest))
    ended [] [] None e = refl
    ended [] [] (Some n) e = absurd (no_cons (position_text n) [] e)
    ended [] (m ∷ ms) o e = absurd (no_cons (name_text m) (name_texts ms o) e)
    ended (r ∷ rs) ms o e = absurd (no_cons (request_text r) (map request_text rs ++ name_texts ms o) e)

pub record_back : (e : Entry) (rest : List Line) → IsEntry e → record_in (record_of (texts_of e) ++ rest) ≡ Some (e, rest)
record_back e rest w = requests_left [] e.requests e.names e.position rest w.requests w.names w.position w.some

-- ---- what is read was written

all_pushed : {X : Type 0} (P : X → Type 0) (xs : List X) (x : X) → AllByRecursion P xs → P x → AllByRecursion P (xs ++ x ∷ [])
all_pushed P [] x h p = (p, tt)
all_pushed P (y ∷ ys) x h p = (h.0, all_pushed P ys x h.1 p)

-- what was read of a record so far
record IsFront (e : Entry) : Type 0 where
  requests : AllByRecursion IsRequest e.requests
  names : AllByRecursion IsNamed e.names
  position : IsPosition e.position

suc_not : (n : ℕ) → (suc n == 0) ≡ false
suc_not n = ne_eqb (suc n) 0 (λ e. let none : ⊥ = omega (arith, e) in none)

-- one text more was read
record IsMore (e f : Entry) (t : List ℕ) : Type 0 where
  front : IsFront f
  texts : texts_of f ≡ texts_of e ++ t ∷ []

more_of : (e f g : Entry) (t : List ℕ) → Some f ≡ Some g → IsMore e f t → IsMore e g t
more_of e f g t h m = subst (λ z. IsMore e z t) (same-Some f g h) m

request_more : (qs : List Request) (ns : List Named) (p : Option ℕ) (q : Request) (g : Entry) → IsFront (made qs ns p) → IsRequest q → with_text (made qs ns p) (of_request q) ≡ Some g
    → IsMore (made qs ns p) g (request_text q)
request_more qs ns (Some n) q g a w h = absurd (not_None-Some g (sym h))
request_more qs (m ∷ ms) None q g a w h =
    absurd (not_None-Some g (sym (sym (ap (λ b. cond b (Some (made (qs ++ q ∷ []) (m ∷ ms) None)) None) (suc_not (length ms))) ∙ h)))
request_more qs [] None q g a w h = more_of (made qs [] None) (made (qs ++ q ∷ []) [] None) g (request_text q) h (record {
  front = record { requests = all_pushed IsRequest qs q a.requests w; names = tt; position = refl };
  texts = append-nil (map request_text (qs ++ q ∷ [])) ∙ (map-append request_text qs (q ∷ []) ∙ ap (λ z. z ++ request_text q ∷ []) (sym (append-nil (map request_text qs))));
})

name_more : (qs : List Request) (ns : List Named) (p : Option ℕ) (n : Named) (g : Entry) → IsFront (made qs ns p) → IsNamed n → with_text (made qs ns p) (of_name n) ≡ Some g
    → IsMore (made qs ns p) g (name_text n)
name_more qs ns (Some k) n g a w h = absurd (not_None-Some g (sym h))
name_more qs ns None n g a w h = more_of (made qs ns None) (made qs (ns ++ n ∷ []) None) g (name_text n) h (record {
  front = record { requests = a.requests; names = all_pushed IsNamed ns n a.names w; position = refl };
  texts = ap (λ z. map request_text qs ++ z) (append-nil (map name_text (ns ++ n ∷ [])) ∙ (map-append name_text ns (n ∷ []) ∙ ap (λ z. z ++ name_text n ∷ []) (sym (append-nil (map name_text ns)))))
      ∙ sym (append_assoc (map request_text qs) (map name_text ns ++ []) (name_text n ∷ []));
})

position_more : (qs : List Request) (ns : List Named) (p : Option ℕ) (n : ℕ) (g : Entry) → IsFront (made qs ns p) → is_count n ≡ true → with_text (made qs ns p) (of_position n) ≡ Some g
    → IsMore (made qs ns p) g (position_text n)
position_more qs ns (Some k) n g a w h = absurd (not_None-Some g (sym h))
position_more qs ns None n g a w h = more_of (made qs ns None) (made qs ns (Some n)) g (position_text n) h (record {
  front = record { requests = a.requests; names = a.names; position = w };
  texts = ap (λ z. map request_text qs ++ (z ++ position_text n ∷ [])) (sym (append-nil (map name_text ns)))
      ∙ sym (append_assoc (map request_text qs) (map name_text ns ++ []) (position_text n ∷ []));
})

one_more : (e g : Entry) (t : List ℕ) (x : Text) → IsFront e → Is t x → with_text e x ≡ Some g → IsMore e g t
one_more e g t (of_request q) a w h = subst (IsMore e g) (sym w.written) (request_more e.requests e.names e.position q g a w.well h)
one_more e g t (of_name n) a w h = subst (IsMore e g) (sym w.written) (name_more e.requests e.names e.position n g a w.well h)
one_more e g t (of_position p) a w h = subst (IsMore e g) (sym w.written) (position_more e.requests e.names e.position p g a w.well h)

-- the rest of a record
record IsRest (e : Entry) (ls : List Line) (f : Entry) (rest : List Line) : Type 0 where
  texts : List (List ℕ)
  some : texts ≡ [] → ⊥
  front : IsFront f
  all : texts_of f ≡ texts_of e ++ texts
  lines : ls ≡ record_of texts ++ rest

abbrev Reads : List Line → Entry → List Line → Type 0
Reads ls f rest = (g : Entry) → IsFront g → record_from g ls ≡ Some (f, rest) → IsRest g ls f rest

rest_sound : (ls : List Line) (f : Entry) (rest : List Line) → Reads ls f rest
rest_sound [] f rest e a h = absurd (not_None-Some {X = Entry × List Line} (f, rest) (sym h))
rest_sound (l ∷ ls) f rest e a h = by_text (λ g m k. rest_sound ls f rest g m k) (text_in l.text) refl h
  where
    by_end : Reads ls f rest → (g : Entry) → IsMore e g l.text → (b : Bool) → l.is_last ≡ b → cond b (Some (g, ls)) (record_from g ls) ≡ Some (f, rest) → IsRest e (l ∷ ls) f rest
    by_end more g m true k i =
        let same = same-Some {X = Entry × List Line} (g, ls) (f, rest) i in
        let entry : g ≡ f = ap (λ (z : Entry × List Line). z.0) same in
        record {
          texts = l.text ∷ [];
          some = λ n. no_cons l.text [] n;
          front = subst IsFront entry m.front;
          all = ap texts_of (sym entry) ∙ m.texts;
          lines = (λ j. record { is_last = k j; text = l.text } ∷ (same j).1);
        }
    by_end more g m false k i =
        let r = more g m.front i in
        record {
          texts = l.text ∷ r.texts;
          some = λ n. no_cons l.text r.texts n;
          front = r.front;
          all = r.all ∙ (ap (λ z. z ++ r.texts) m.texts ∙ append_assoc (texts_of e) (l.text ∷ []) r.texts);
          lines = (λ j. record { is_last = k j; text = l.text } ∷ r.lines j) ∙ ap (λ z. z ++ rest) (sym (record_next l.text r.texts r.some));
        }

    by_entry : Reads ls f rest → (x : Text) → Is l.text x → (o : Option Entry) → with_text e x ≡ o
        → option_and_then (λ g. cond l.is_last (Some (g, ls)) (record_from g ls)) o ≡ Some (f, rest) → IsRest e (l ∷ ls) f rest
    by_entry more x w None k i = absurd (not_None-Some {X = Entry × List Line} (f, rest) (sym i))
    by_entry more x w (Some g) k i = by_end more g (one_more e g l.text x a w k) l.is_last refl i

    by_text : Reads ls f rest → (o : Option Text) → text_in l.text ≡ o
        → option_and_then (λ x. option_and_then (λ g. cond l.is_last (Some (g, ls)) (record_from g ls)) (with_text e x)) o ≡ Some (f, rest) → IsRest e (l ∷ ls) f rest
    by_text more None k i = absurd (not_None-Some {X = Entry × List Line} (f, rest) (sym i))
    by_text more (Some x) k i = by_entry more x (Is-text_in l.text x k) (with_text e x) refl i

pub record_sound : (ls : List Line) (e : Entry) (rest : List Line) → record_in ls ≡ Some (e, rest) → Begins ls e rest
record_sound ls e rest h =
    let r = rest_sound ls e rest no_entry (record { requests = tt; names = tt; position = refl }) h in
    record {
      entry = record { requests = r.front.requests; names = r.front.names; position = r.front.position; some = λ n. r.some (sym r.all ∙ n) };
      lines = r.lines ∙ ap (λ z. record_of z ++ rest) (sym r.all);
    }

pub reads_back : ReadsBack
reads_back ls e rest = (record_sound ls e rest, λ b. ap record_in b.lines ∙ record_back e rest b.entry)

-- The journal may have what is heard as a request.
use Rattle.std.proofs.Common.{◌≡◌, ℕ, Bool, true, false, cond, ◌||◌, List, [], ◌∷◌, ◌++◌, Option, Some, None, option_map, refl, ap, ◌∙◌, sym, append_assoc}
use Rattle.std.specs.Prelude.{◌==◌, ◌&&◌, codes, length, nat_lt, option_and_then, unwrap_or}
use Rattle.std.proofs.lemmas.Bool.{false≢true}
use Rattle.std.proofs.lemmas.List.Folds.{list_any-append}
use Rattle.serde_json.specs.Data.{Data}
use Rattle.iv_rows.specs.Names.{is_name}
use Rattle.iv_rows.specs.Options.{if_some}
use Rattle.iv_access.specs.Rights.{Name}
use Rattle.iv_machine.specs.Act.{Act}
use Rattle.iv_request.specs.Reading.{value_of}
use Rattle.iv_message.specs.Message.{Message, no_json, too_long, no_object, no_request, request, id_in, message_of, on_one_line}
use Rattle.iv_records.specs.Journal.{IsRequest, Parts, begins_object, has_newline, id_in_front, id_parts, is_blank, is_shared, line_said, most_said, not_request, parts_of, said_by, said_in, unindented, with_brace, with_front}
use Rattle.iv_records.specs.Names.{Claim, Spelled, behind_count, behind_epoch, behind_name, claim_in, claimed, count_in, is_epoch, is_random, spelled_in}
use Rattle.iv_records.specs.Cuts.{between, behind, cut_at}
use Rattle.iv_records.proofs.CutParts.{same-behind, same-cut_at, Found-option_and_then}
use Rattle.iv_clients.proofs.Slots.{same-Some, not_None-Some}
use Rattle.iv_gate.proofs.NumberSums.{or-both_false}

-- ---- ends of texts

-- the text ends so
record EndsIn (text rest : List ℕ) : Type 0 where
  front : List ℕ
  is : text ≡ front ++ rest

ends_itself : (text : List ℕ) → EndsIn text text
ends_itself text = record { front = []; is = refl }

ends_then : (a b c : List ℕ) → EndsIn a b → EndsIn b c → EndsIn a c
ends_then a b c x y = record { front = x.front ++ y.front; is = x.is ∙ (ap (λ z. x.front ++ z) y.is ∙ sym (append_assoc x.front y.front c)) }

behind_ends : (prefix text rest : List ℕ) → behind prefix text ≡ Some rest → EndsIn text rest
behind_ends prefix text rest h = record { front = prefix; is = same-behind prefix text rest h }

cut_ends : (b : ℕ) (text : List ℕ) (p : List ℕ × List ℕ) → cut_at b text ≡ Some p → EndsIn text p.1
cut_ends b text p h = record { front = p.0 ++ b ∷ []; is = same-cut_at b text p h ∙ sym (append_assoc p.0 (b ∷ []) p.1) }

between_ends : (prefix : List ℕ) (b : ℕ) (text : List ℕ) (p : List ℕ × List ℕ) → between prefix b text ≡ Some p → EndsIn text p.1
between_ends prefix b text p h =
    let f = Found-option_and_then (cut_at b) (behind prefix text) p h in ends_then text f.of p.1 (behind_ends prefix text f.of f.there) (cut_ends b f.of p f.is)

one_in_end : (text rest : List ℕ) → EndsIn text rest → has_newline text ≡ false → has_newline rest ≡ false
one_in_end text rest e h =
    (or-both_false (has_newline e.front) (has_newline rest) (sym (list_any-append (λ b. b == 10) e.front rest) ∙ (ap has_newline (sym e.is) ∙ h))).1

-- ---- what is left of a message

on_one : (text : List ℕ) → has_newline (on_one_line text) ≡ false
on_one [] = refl
on_one (b ∷ text) = (λ i. by (b == 10) refl i || on_one text i)
  where
    by : (t : Bool) → (b == 10) ≡ t → (cond t 32 b == 10) ≡ false
    by true h = refl
    by false h = h

unindented_on_one : (text : List ℕ) → has_newline text ≡ false → has_newline (unindented text) ≡ false
unindented_on_one [] h = refl
unindented_on_one (b ∷ text) h = by (is_blank b) (unindented_on_one text (or-both_false (b == 10) (has_newline text) h).1)
  where
    by : (t : Bool) → has_newline (unindented text) ≡ false → has_newline (cond t (unindented text) (b ∷ text)) ≡ false
    by true more = more
    by false more = h

-- it is all of the line, or a brace and an end of the line
data IsLeft (line left : List ℕ) : Type 0 where
  all : left ≡ line → IsLeft line left
  an_end : (rest : List ℕ) → EndsIn line rest → left ≡ 123 ∷ rest → IsLeft line left

one_left : (line left : List ℕ) → IsLeft line left → has_newline line ≡ false → has_newline left ≡ false
one_left line left (all e) h = ap has_newline e ∙ h
one_left line left (an_end rest x e) h = ap has_newline e ∙ one_in_end line rest x h

without_id : (line : List ℕ) → IsLeft line (parts_of line).1
without_id line = by (id_in_front line) refl
  where
    back : (p : Parts) → id_in_front line ≡ Some p → IsLeft line p.1
    back p h =
        let f = Found-option_and_then (λ (q : List ℕ × List ℕ). option_map {U = Parts} (with_brace q.1) (option_and_then id_in (value_of q.0))) (option_and_then (cut_at 44) (behind (codes "{\"id\":") line)) p h in
        let c = Found-option_and_then (cut_at 44) (behind (codes "{\"id\":") line) f.of f.there in
        last f.of (ends_then line c.of f.of.1 (behind_ends (codes "{\"id\":") line c.of c.there) (cut_ends 44 c.of f.of c.is)) (option_and_then id_in (value_of f.of.0)) f.is
      where
        last : (q : List ℕ × List ℕ) → EndsIn line q.1 → (o : Option Data) → option_map {U = Parts} (with_brace q.1) o ≡ Some p → IsLeft line p.1
        last q e None k = absurd (not_None-Some p (sym k))
        last q e (Some id) k = an_end q.1 e (ap (λ (z : Parts). z.1) (sym (same-Some {X = Parts} (Some id, 123 ∷ q.1) p k)))

    by : (o : Option Parts) → id_in_front line ≡ o → IsLeft line (unwrap_or o (None, line)).1
    by None h = all refl
    by (Some p) h = back p h

spelled_ends : (text : List ℕ) (s : Spelled) → spelled_in text ≡ Some s → EndsIn text s.rest
spelled_ends text s h =
    let n = Found-option_and_then behind_name (between (codes "\"once\":\"") 34 text) s h in
    let e = Found-option_and_then (behind_epoch n.of.0) (between (codes ",\"at\":\"") 46 n.of.1) s n.is in
    let c = Found-option_and_then (behind_count n.of.0 e.of.0) (cut_at 34 e.of.1) s e.is in
    ends_then text n.of.1 s.rest (between_ends (codes "\"once\":\"") 34 text n.of n.there)
    (ends_then n.of.1 e.of.1 s.rest (between_ends (codes ",\"at\":\"") 46 n.of.1 e.of e.there)
    (ends_then e.of.1 c.of.1 s.rest (cut_ends 34 e.of.1 c.of c.there) (last n.of.0 e.of.0 c.of (behind (codes ",") c.of.1) refl c.is)))
  where
    last : (name epoch : List ℕ) (c : List ℕ × List ℕ) (o : Option (List ℕ)) → behind (codes ",") c.1 ≡ o
        → option_map {U = Spelled} (λ rest. record { name = name; epoch = epoch; digits = c.0; rest = rest }) o ≡ Some s → EndsIn c.1 s.rest
    last name epoch c None e k = absurd (not_None-Some s (sym k))
    last name epoch c (Some rest) e k =
        let same = ap (λ (z : Spelled). z.rest) (same-Some (record { name = name; epoch = epoch; digits = c.0; rest = rest }) s k) in
        behind_ends (codes ",") c.1 s.rest (e ∙ ap Some same)

claimed_rest : (s : Spelled) (p : Claim × List ℕ) → claimed s ≡ Some p → p.1 ≡ 123 ∷ s.rest
claimed_rest s p h = by (is_random s.name && is_epoch s.epoch) (count_in s.digits) h
  where
    by : (t : Bool) (o : Option ℕ) → cond t (option_map {U = Claim × List ℕ} (λ count. (record { name = s.name; at = record { epoch = s.epoch; count = count } }, 123 ∷ s.rest)) o) None ≡ Some p
        → p.1 ≡ 123 ∷ s.rest
    by false o k = absurd (not_None-Some p (sym k))
    by true None k = absurd (not_None-Some p (sym k))
    by true (Some n) k = ap (λ (z : Claim × List ℕ). z.1) (sym (same-Some {X = Claim × List ℕ} (record { name = s.name; at = record { epoch = s.epoch; count = n } }, 123 ∷ s.rest) p k))

without_name : (line : List ℕ) (p : Claim × List ℕ) → claim_in line ≡ Some p → IsLeft line p.1
without_name line p h =
    let f = Found-option_and_then claimed (option_and_then spelled_in (behind (codes "{") line)) p h in
    let g = Found-option_and_then spelled_in (behind (codes "{") line) f.of f.there in
    an_end f.of.rest (ends_then line g.of f.of.rest (behind_ends (codes "{") line g.of g.there) (spelled_ends g.of f.of g.is)) (claimed_rest f.of p f.is)

pub line_on_one : (text : List ℕ) → has_newline (line_said text) ≡ false
line_on_one text = by (claim_in (id_parts text).1) refl
  where
    before : has_newline (id_parts text).1 ≡ false
    before = one_left (unindented (on_one_line text)) (id_parts text).1 (without_id (unindented (on_one_line text))) (unindented_on_one (on_one_line text) (on_one text))

    by : (o : Option (Claim × List ℕ)) → claim_in (id_parts text).1 ≡ o
        → has_newline (if_some {B = Option Claim × List ℕ} o (None, (id_parts text).1) (λ p. (Some p.0, p.1))).1 ≡ false
    by None h = before
    by (Some p) h = one_left (id_parts text).1 p.1 (without_name (id_parts text).1 p h) before

-- ---- what is asked

abbrev is_asked_by : Message → Bool
is_asked_by (request id act) = true
is_asked_by no_json = false
is_asked_by too_long = false
is_asked_by no_object = false
is_asked_by (no_request id why) = false

-- the act that is asked; of no request another
abbrev act_asked : Act → Message → Act
act_asked act (request id a) = a
act_asked act no_json = act
act_asked act too_long = act
act_asked act no_object = act
act_asked act (no_request id why) = act

asked_in_front : (front : Option Data) (s : Message) (id : Option Data) (act : Act) → with_front front s ≡ request id act → s ≡ request None act
asked_in_front front no_json id act h = absurd (false≢true (ap is_asked_by h))
asked_in_front front too_long id act h = absurd (false≢true (ap is_asked_by h))
asked_in_front front no_object id act h = absurd (false≢true (ap is_asked_by h))
asked_in_front front (no_request i why) id act h = absurd (false≢true (ap is_asked_by h))
asked_in_front front (request None a) id act h = ap (request None) (ap (act_asked a) h)
asked_in_front front (request (Some i) a) id act h = absurd (false≢true (ap is_asked_by h))

asked_not : (s : Message) (id : Option Data) (act : Act) → not_request s ≡ request id act → ⊥
asked_not no_json id act h = false≢true (ap is_asked_by h)
asked_not too_long id act h = false≢true (ap is_asked_by h)
asked_not no_object id act h = false≢true (ap is_asked_by h)
asked_not (no_request i why) id act h = false≢true (ap is_asked_by h)
asked_not (request i a) id act h = false≢true (ap is_asked_by h)

record IsAsked (line : List ℕ) (act : Act) : Type 0 where
  brace : begins_object line ≡ true
  asks : message_of line ≡ request None act

is_asked : (text : List ℕ) (id : Option Data) (act : Act) → said_by text ≡ request id act → IsAsked (line_said text) act
is_asked text id act h = by (nat_lt most_said (length text)) h
  where
    in_brace : (t : Bool) → begins_object (line_said text) ≡ t
        → cond t (with_front (id_parts text).0 (message_of (line_said text))) (not_request (message_of (line_said text))) ≡ request id act → IsAsked (line_said text) act
    in_brace true e k = record { brace = e; asks = asked_in_front (id_parts text).0 (message_of (line_said text)) id act k }
    in_brace false e k = absurd (asked_not (message_of (line_said text)) id act k)

    by : (t : Bool) → cond t too_long (said_in ((id_parts text).0, line_said text)) ≡ request id act → IsAsked (line_said text) act
    by true k = absurd (false≢true (ap is_asked_by k))
    by false k = in_brace (begins_object (line_said text)) refl k

-- a request that changes what is shared, of a role with a name
pub IsRequest-said_by : (role : Name) (text : List ℕ) (id : Option Data) (act : Act) → is_name role ≡ true → is_shared act ≡ true
    → said_by text ≡ request id act
    → IsRequest (record { role = role; line = line_said text; act = act })
IsRequest-said_by role text id act name shared h =
    let a = is_asked text id act h in
    record { role = name; shared = shared; brace = a.brace; line = line_on_one text; asks = a.asks }

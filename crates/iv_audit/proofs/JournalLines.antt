-- A journal that goes on by lines.
use Rattle.std.proofs.Common.{◌≡◌, ℕ, suc, ◌+◌, ◌≤◌, Bool, true, false, cond, List, [], ◌∷◌, ◌++◌, append_assoc, append-nil, Option, None, map, length, length-append, refl, ap, ◌∙◌, sym, subst, arith}
use Rattle.std.specs.List.{AllByRecursion}
use Rattle.iv_journal.specs.Journal.{Line, body_of, bytes_of, digest_behind, digest_of, is_text, journal_of, no_digest}
use Rattle.iv_audit.specs.Audit.{Written, head_line, is_noted, is_request, record_of, text_by}
use Rattle.iv_audit.specs.Reading.{line_in, lines_in}
use Rattle.iv_audit.specs.Laws.{BytesHaveLines}
use Rattle.iv_audit.specs.Writing.{GoesOnBy, GoesOnWith, IsAnew, IsPushed, holder_at, note_by, noted_from}
use Rattle.iv_audit.specs.declared.writing.Share.{Share}
use Rattle.iv_audit.proofs.Texts.{text_in-not_noted}

-- ---- lines behind lines

pub bytes_of-append : (d : List ℕ) (ls ms : List Line) → bytes_of d (ls ++ ms) ≡ bytes_of d ls ++ bytes_of (digest_behind d ls) ms
bytes_of-append d [] ms = refl
bytes_of-append d (l ∷ ls) ms =
    ap (λ z. body_of d l ++ 10 ∷ z) (bytes_of-append (digest_of d l) ls ms)
    ∙ sym (append_assoc (body_of d l) (10 ∷ bytes_of (digest_of d l) ls) (bytes_of (digest_behind (digest_of d l) ls) ms))

pub digest_behind-append : (d : List ℕ) (ls ms : List Line) → digest_behind d (ls ++ ms) ≡ digest_behind (digest_behind d ls) ms
digest_behind-append d [] ms = refl
digest_behind-append d (l ∷ ls) ms = digest_behind-append (digest_of d l) ls ms

records_append : (vs ws : List Written) → map record_of (vs ++ ws) ≡ map record_of vs ++ map record_of ws
records_append [] ws = refl
records_append (v ∷ vs) ws = ap (λ z. record_of v ∷ z) (records_append vs ws)

abbrev pub AllTexts : List Written → Type 0
AllTexts ws = AllByRecursion (λ (w : Written). is_text (record_of w).text ≡ true) ws

texts_append : (vs ws : List Written) → AllTexts vs → AllTexts ws → AllTexts (vs ++ ws)
texts_append [] ws a b = b
texts_append (v ∷ vs) ws a b = (a.0, texts_append vs ws a.1 b)

by_nothing : (d was now : List ℕ) → now ≡ was → GoesOnBy [] d d was now
by_nothing d was now e = record { bytes = e ∙ sym (append-nil was); digest = refl; texts = tt }

by_one : (w : Written) (line : Line) (before after was now : List ℕ) → line ≡ record_of w → IsPushed line before after was now → GoesOnBy (w ∷ []) before after was now
by_one w line before after was now e p = record {
  bytes = p.bytes ∙ ap (λ (z : Line). was ++ bytes_of before (z ∷ [])) e;
  digest = p.digest ∙ ap (λ (z : Line). digest_behind before (z ∷ [])) e;
  texts = (ap (λ (z : Line). is_text z.text) (sym e) ∙ p.is, tt);
}

then_by : (vs ws : List Written) (b c d was mid now : List ℕ) → GoesOnBy vs b c was mid → GoesOnBy ws c d mid now → GoesOnBy (vs ++ ws) b d was now
then_by vs ws b c d was mid now p q = record {
  bytes = q.bytes ∙ (λ i. p.bytes i ++ bytes_of (p.digest i) (map record_of ws))
      ∙ (append_assoc was (bytes_of b (map record_of vs)) (bytes_of (digest_behind b (map record_of vs)) (map record_of ws))
      ∙ ap (λ z. was ++ z) (sym (bytes_of-append b (map record_of vs) (map record_of ws)) ∙ ap (bytes_of b) (sym (records_append vs ws))));
  digest = q.digest ∙ (ap (λ z. digest_behind z (map record_of ws)) p.digest
      ∙ (sym (digest_behind-append b (map record_of vs) (map record_of ws)) ∙ ap (digest_behind b) (sym (records_append vs ws))));
  texts = texts_append vs ws p.texts q.texts;
}

-- ---- lines behind lines of a gateway

noted_append : (at : Option ℕ) (shares : List Share) (n : ℕ) (ls ms : List Line)
    → noted_from at shares n (ls ++ ms) ≡ noted_from at shares n ls ++ noted_from at shares (n + length ls) ms
noted_append at shares n [] ms = ap (λ m. noted_from at shares m ms) (let e : n ≡ n + 0 = omega arith in e)
noted_append at shares n (l ∷ ls) ms =
    let same : n + 1 + length ls ≡ n + suc (length ls) = omega arith in
    ap (λ z. record { note = note_by at (holder_at shares n) l.text; line = l } ∷ z)
    (noted_append at shares (n + 1) ls ms ∙ ap (λ m. noted_from at shares (n + 1) ls ++ noted_from at shares m ms) same)

abbrev pub ArePlain : List Line → Type 0
ArePlain ls = AllByRecursion (λ (l : Line). is_noted l.text ≡ false) ls

plain_append : (ls ms : List Line) → ArePlain ls → ArePlain ms → ArePlain (ls ++ ms)
plain_append [] ms a b = b
plain_append (l ∷ ls) ms a b = (a.0, plain_append ls ms a.1 b)

-- what is done, and what is left
pub record IsDone (at : Option ℕ) (shares left : List Share) (lines rest : List Line) (place : ℕ) (before chain was out : List ℕ) : Type 0 where
  pub done : List Line
  pub split : lines ≡ done ++ rest
  pub long : place ≡ length done
  pub are : ArePlain done
  pub goes : GoesOnBy (noted_from at shares 0 done) before chain was out
  pub same : (n : ℕ) → place ≤ n → holder_at left n ≡ holder_at shares n

pub begins : (at : Option ℕ) (shares : List Share) (lines : List Line) (before was : List ℕ) → IsDone at shares shares lines lines 0 before before was was
begins at shares lines before was =
    record { done = []; split = refl; long = refl; are = tt; goes = by_nothing before was was refl; same = λ n h. refl }

-- one line more
pub IsDone-next : (at : Option ℕ) (shares left now : List Share) (lines rest later : List Line) (place : ℕ) (before chain next was out grown : List ℕ) (l made : Line) (holder : List ℕ)
    → IsDone at shares left lines rest place before chain was out → rest ≡ l ∷ later → is_noted l.text ≡ false
    → ((n : ℕ) → place ≤ n → holder_at now n ≡ holder_at left n) → holder ≡ holder_at now place
    → made ≡ record { is_last = l.is_last; text = text_by (note_by at holder l.text) l.text } → IsPushed made chain next out grown
    → IsDone at shares now lines later (place + 1) before next was grown
IsDone-next at shares left now lines rest later place before chain next was out grown l made holder h line is same held e p =
    let here : holder ≡ holder_at shares place = held ∙ (same place (omega arith) ∙ h.same place (omega arith)) in
    let note : made ≡ record_of (record { note = note_by at (holder_at shares place) l.text; line = l }) =
    e ∙ ap (λ (z : List ℕ). record { is_last = l.is_last; text = text_by (note_by at z l.text) l.text }) here in
    let one = by_one (record { note = note_by at (holder_at shares place) l.text; line = l }) made chain next out grown note p in
    let first : 0 + length h.done ≡ place = (let k = h.long in omega (arith, k)) in
    let more = noted_append at shares 0 h.done (l ∷ []) ∙ ap (λ m. noted_from at shares 0 h.done ++ noted_from at shares m (l ∷ [])) first in
    let long = length-append h.done (l ∷ []) in
    record {
      done = h.done ++ l ∷ [];
      split = h.split ∙ (ap (λ z. h.done ++ z) line ∙ sym (append_assoc h.done (l ∷ []) later));
      long = (let k = h.long in omega (arith, k, long));
      are = plain_append h.done (l ∷ []) h.are (is, tt);
      goes = subst (λ (z : List Written). GoesOnBy z before next was grown) (sym more)
          (then_by (noted_from at shares 0 h.done) (record { note = note_by at (holder_at shares place) l.text; line = l } ∷ []) before chain next was out grown h.goes one);
      same = λ n k. same n (omega (arith, k)) ∙ h.same n (omega (arith, k));
    }

pub GoesOnWith-IsDone : (at : Option ℕ) (shares left : List Share) (lines rest : List Line) (place : ℕ) (before chain was out : List ℕ) → IsDone at shares left lines rest place before chain was out
    → rest ≡ [] → GoesOnWith at shares lines before chain was out
GoesOnWith-IsDone at shares left lines rest place before chain was out h e =
    let all : h.done ≡ lines = sym (h.split ∙ (ap (λ z. h.done ++ z) e ∙ append-nil h.done)) in
    record {
      are = subst ArePlain all h.are;
      goes = subst (λ (z : List Line). GoesOnBy (noted_from at shares 0 z) before chain was out) all h.goes;
    }

-- ---- anew

plain_record : (l : Line) (b : Bool) → record { is_last = l.is_last; text = text_by (cond b None None) l.text } ≡ l
plain_record l true = refl
plain_record l false = refl

plain_records : (shares : List Share) (n : ℕ) (ls : List Line) → map record_of (noted_from None shares n ls) ≡ ls
plain_records shares n [] = refl
plain_records shares n (l ∷ ls) = (λ i. plain_record l (is_request l.text) i ∷ plain_records shares (n + 1) ls i)

pub AllByRecursion-AllTexts : (ws : List Written) → AllTexts ws → AllByRecursion (λ (l : Line). is_text l.text ≡ true) (map record_of ws)
AllByRecursion-AllTexts [] a = tt
AllByRecursion-AllTexts (w ∷ ws) a = (a.0, AllByRecursion-AllTexts ws a.1)

lines_plain : (ls : List Line) → ArePlain ls → map line_in ls ≡ ls
lines_plain [] a = refl
lines_plain (l ∷ ls) a = (λ i. record { is_last = l.is_last; text = text_in-not_noted l.text a.0 i } ∷ lines_plain ls a.1 i)

pub IsAnew-GoesOnWith : BytesHaveLines → (epoch : List ℕ) (lines : List Line) (before was mid now c d : List ℕ) → before ≡ no_digest → was ≡ [] → IsPushed (head_line epoch) before c was mid
    → GoesOnWith None [] lines c d mid now → IsAnew epoch lines now
IsAnew-GoesOnWith law epoch lines before was mid now c d e f h q =
    let p = subst (λ (z : List ℕ). IsPushed (head_line epoch) z c [] mid) e (subst (λ (w : List ℕ). IsPushed (head_line epoch) before c w mid) f h) in
    let same = plain_records [] 0 lines in
    let texts : AllByRecursion (λ (l : Line). is_text l.text ≡ true) lines =
    subst (AllByRecursion (λ (l : Line). is_text l.text ≡ true)) same (AllByRecursion-AllTexts (noted_from None [] 0 lines) q.goes.texts) in
    let journal : now ≡ journal_of (head_line epoch ∷ lines) =
    q.goes.bytes ∙ ((λ i. p.bytes i ++ bytes_of (p.digest i) (same i)) ∙ sym (bytes_of-append no_digest (head_line epoch ∷ []) lines)) in
    record {
      journal = journal;
      same = ap lines_in journal ∙ (law (head_line epoch ∷ lines) (p.is, texts) ∙ lines_plain lines q.are);
    }

-- Readings: any bytes have one.
use Rattle.std.proofs.Common.{◌≡◌, ◌⊎◌, inl, inr, ℕ, zero, suc, ◌≤◌, true, List, [], ◌∷◌, ◌++◌, append_assoc, length, length-append, refl, ap, ◌∙◌, sym, subst, arith}
use Rattle.std.specs.List.{AllByRecursion}
use Rattle.iv_journal.specs.Journal.{Line, body_of, bytes_of, digest_behind, digest_of, is_text, no_digest}
use Rattle.iv_journal.specs.Reading.{BeginsNoLine, fault_of, whole}
use Rattle.iv_journal.specs.Laws.{GoesOn, HasOneReading}
use Rattle.iv_journal.proofs.Bodies.{NextLine, NextLine-or_BeginsNoLine, same-body_of}

-- ---- lines behind lines

pub bytes_of-append : (d : List ℕ) (ls ms : List Line) → bytes_of d (ls ++ ms) ≡ bytes_of d ls ++ bytes_of (digest_behind d ls) ms
bytes_of-append d [] ms = refl
bytes_of-append d (l ∷ ls) ms =
    ap (λ z. body_of d l ++ 10 ∷ z) (bytes_of-append (digest_of d l) ls ms)
    ∙ sym (append_assoc (body_of d l) (10 ∷ bytes_of (digest_of d l) ls) (bytes_of (digest_behind (digest_of d l) ls) ms))

pub digest_behind-append : (d : List ℕ) (ls ms : List Line) → digest_behind d (ls ++ ms) ≡ digest_behind (digest_behind d ls) ms
digest_behind-append d [] ms = refl
digest_behind-append d (l ∷ ls) ms = digest_behind-append (digest_of d l) ls ms

pub GoesOn-lines : (ls ms : List Line) → GoesOn ls ms
GoesOn-lines ls ms = record { bytes = bytes_of-append no_digest ls ms; digest = digest_behind-append no_digest ls ms }

-- ---- at most one

abbrev pub AllText : List Line → Type 0
AllText ls = AllByRecursion (λ l. is_text l.text ≡ true) ls

pub same-bytes_of : (d : List ℕ) (ls ms : List Line) (r s : List ℕ) → AllText ls → AllText ms → BeginsNoLine (digest_behind d ls) r → BeginsNoLine (digest_behind d ms) s
    → bytes_of d ls ++ r ≡ bytes_of d ms ++ s → (ls ≡ ms) × (r ≡ s)
same-bytes_of d [] [] r s a b f g e = (refl, e)
same-bytes_of d [] (m ∷ ms) r s a b f g e =
    absurd (f m (bytes_of (digest_of d m) ms ++ s) b.0 (e ∙ append_assoc (body_of d m) (10 ∷ bytes_of (digest_of d m) ms) s))
same-bytes_of d (l ∷ ls) [] r s a b f g e =
    absurd (g l (bytes_of (digest_of d l) ls ++ r) a.0 (sym e ∙ append_assoc (body_of d l) (10 ∷ bytes_of (digest_of d l) ls) r))
same-bytes_of d (l ∷ ls) (m ∷ ms) r s a b f g e =
    let k = same-body_of d l m (bytes_of (digest_of d l) ls ++ r) (bytes_of (digest_of d m) ms ++ s) a.0 b.0
    (sym (append_assoc (body_of d l) (10 ∷ bytes_of (digest_of d l) ls) r) ∙ (e ∙ append_assoc (body_of d m) (10 ∷ bytes_of (digest_of d m) ms) s)) in
    let same : m ≡ l = sym k.0 in
    let p = same-bytes_of (digest_of d l) ls ms r s a.1 b.1 f (subst (λ (x : Line). BeginsNoLine (digest_behind (digest_of d x) ms) s) same g)
    (k.1 ∙ ap (λ (x : Line). bytes_of (digest_of d x) ms ++ s) same) in
    (λ i. k.0 i ∷ p.0 i, p.1)

-- ---- one

pub record Lines (d bytes : List ℕ) : Type 0 where
  pub lines : List Line
  pub rest : List ℕ
  pub all : bytes ≡ bytes_of d lines ++ rest
  pub texts : AllText lines
  pub furthest : BeginsNoLine (digest_behind d lines) rest

shorter : (d bytes : List ℕ) (k : NextLine d bytes) (n : ℕ) → length bytes ≤ suc n → length k.after ≤ n
shorter d bytes k n h =
    let a = ap length k.bytes in
    let b = length-append (body_of d k.line) (10 ∷ k.after) in
    omega (arith, a, b, h)

none_in_none : (d bytes : List ℕ) (k : NextLine d bytes) → length bytes ≤ 0 → ⊥
none_in_none d bytes k h =
    let a = ap length k.bytes in
    let b = length-append (body_of d k.line) (10 ∷ k.after) in
    omega (arith, a, b, h)

lines_by : (n : ℕ) (d bytes : List ℕ) → length bytes ≤ n → Lines d bytes
lines_by zero d bytes h = by (NextLine-or_BeginsNoLine d bytes)
  where
    by : NextLine d bytes ⊎ BeginsNoLine d bytes → Lines d bytes
    by (inl k) = absurd (none_in_none d bytes k h)
    by (inr none) = record { lines = []; rest = bytes; all = refl; texts = tt; furthest = none }
lines_by (suc n) d bytes h = by (NextLine-or_BeginsNoLine d bytes) (λ (e after : List ℕ) (l : length after ≤ n). lines_by n e after l)
  where
    by : NextLine d bytes ⊎ BeginsNoLine d bytes → ((e after : List ℕ) → length after ≤ n → Lines e after) → Lines d bytes
    by (inl k) later =
        let s = later (digest_of d k.line) k.after (shorter d bytes k n h) in
        record {
          lines = k.line ∷ s.lines;
          rest = s.rest;
          texts = (k.text, s.texts);
          furthest = s.furthest;
          all = k.bytes ∙ (ap (λ z. body_of d k.line ++ 10 ∷ z) s.all ∙ sym (append_assoc (body_of d k.line) (10 ∷ bytes_of (digest_of d k.line) s.lines) s.rest));
        }
    by (inr none) later = record { lines = []; rest = bytes; all = refl; texts = tt; furthest = none }

pub HasOneReading-bytes : (bytes : List ℕ) → HasOneReading bytes
HasOneReading-bytes bytes =
    let s = lines_by (length bytes) no_digest bytes (omega arith) in
    record {
      reading = record { lines = whole s.lines; fault = fault_of s.lines s.rest };
      is = record { lines = s.lines; rest = s.rest; begins = record { all = s.all; texts = s.texts; furthest = s.furthest }; whole = refl; fault = refl };
      only = λ r h.
          let k = same-bytes_of no_digest h.lines s.lines h.rest s.rest h.begins.texts s.texts h.begins.furthest s.furthest (sym h.begins.all ∙ s.all) in
          let lines = h.whole ∙ ap whole k.0 in
          let fault = h.fault ∙ (λ i. fault_of (k.0 i) (k.1 i)) in
          (λ i. record { lines = lines i; fault = fault i });
    }

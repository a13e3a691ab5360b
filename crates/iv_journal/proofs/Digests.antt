-- Digests, and the lines that they tell.
use Rattle.std.proofs.Common.{◌≡◌, ◌⊎◌, inl, inr, ℕ, Bool, true, false, List, [], ◌∷◌, ◌++◌, append_assoc, drop, take, length, refl, ap, ◌∙◌, sym, subst}
use Rattle.std.specs.Prelude.{bytes_eq}
use Rattle.std.proofs.lemmas.Bool.{false≢true}
use Rattle.sha2.specs.Sha256.{sha256}
use Rattle.sha2.proofs.Facts256.{length-sha256}
use Rattle.iv_journal.specs.Journal.{Line, digest_behind, digest_of, mark, message_of, no_digest}
use Rattle.iv_journal.specs.Laws.{Collide, DigestsTell, IsDigested, IsZero}
use Rattle.iv_journal.proofs.Bytes.{bytes_eq-itself, same-bytes_eq}
use Rattle.iv_journal.proofs.Bodies.{same-mark}
use Rattle.iv_journal.proofs.Fronts.{drop-append_at, drop-mark, take-append_at}
use Rattle.iv_journal.proofs.Readings.{digest_behind-append}

-- ---- the latest line first

abbrev forward : List Line → List Line
forward [] = []
forward (l ∷ rs) = forward rs ++ l ∷ []

forward_first : (rs : List Line) (l : Line) → forward (rs ++ l ∷ []) ≡ l ∷ forward rs
forward_first [] l = refl
forward_first (m ∷ rs) l = ap (λ (z : List Line). z ++ m ∷ []) (forward_first rs l)

record Backward (ls : List Line) : Type 0 where
  lines : List Line
  is : forward lines ≡ ls

backward : (ls : List Line) → Backward ls
backward [] = record { lines = []; is = refl }
backward (l ∷ ls) = let b = backward ls in record { lines = b.lines ++ l ∷ []; is = forward_first b.lines l ∙ ap (λ (z : List Line). l ∷ z) b.is }

abbrev digest : List Line → List ℕ
digest rs = digest_behind no_digest (forward rs)

digest_first : (rs : List Line) (l : Line) → digest (l ∷ rs) ≡ digest_of (digest rs) l
digest_first rs l = digest_behind-append no_digest (forward rs) (l ∷ [])

length_digest : (rs : List Line) → length (digest rs) ≡ 32
length_digest [] = refl
length_digest (l ∷ rs) = ap length (digest_first rs l) ∙ length-sha256 (message_of (digest rs) l)

-- ---- messages

newest : (rs : List Line) (l : Line) → IsDigested (forward (l ∷ rs)) (message_of (digest rs) l)
newest rs l = record { before = forward rs; line = l; after = []; lines = refl; message = refl }

older : (rs : List Line) (l : Line) (x : List ℕ) → IsDigested (forward rs) x → IsDigested (forward (l ∷ rs)) x
older rs l x h = record {
  before = h.before;
  line = h.line;
  after = h.after ++ l ∷ [];
  lines = ap (λ (z : List Line). z ++ l ∷ []) h.lines ∙ append_assoc h.before (h.line ∷ h.after) (l ∷ []);
  message = h.message;
}

-- a message tells its line, and the digest before it
same_message : (rs qs : List Line) (l m : Line) → message_of (digest rs) l ≡ message_of (digest qs) m → (digest rs ≡ digest qs) × (l ≡ m)
same_message rs qs l m e =
    let a = take-append_at 32 (digest rs) (mark l.is_last ++ l.text) (length_digest rs) in
    let b = take-append_at 32 (digest qs) (mark m.is_last ++ m.text) (length_digest qs) in
    let c = drop-append_at 32 (digest rs) (mark l.is_last ++ l.text) (length_digest rs) in
    let d = drop-append_at 32 (digest qs) (mark m.is_last ++ m.text) (length_digest qs) in
    let rest : mark l.is_last ++ l.text ≡ mark m.is_last ++ m.text = sym c ∙ (ap (drop 32) e ∙ d) in
    let kind = same-mark l.is_last m.is_last l.text m.text rest in
    let text : l.text ≡ m.text = sym (drop-mark l.is_last l.text) ∙ (ap (drop 9) rest ∙ drop-mark m.is_last m.text) in
    (sym a ∙ (ap (take 32) e ∙ b), λ i. record { is_last = kind i; text = text i })

-- ---- two journals

abbrev Told : List Line → List Line → Type 0
Told ls ms = (ls ≡ ms) ⊎ Collide ls ms ⊎ IsZero ls ⊎ IsZero ms

one_more : (rs qs : List Line) (l m : Line) → l ≡ m → Told (forward rs) (forward qs) → Told (forward (l ∷ rs)) (forward (m ∷ qs))
one_more rs qs l m e (inl h) = inl (λ i. h i ++ e i ∷ [])
one_more rs qs l m e (inr (inl h)) = inr (inl (record {
  one = h.one;
  other = h.other;
  of_one = older rs l h.one h.of_one;
  of_other = older qs m h.other h.of_other;
  differ = h.differ;
  digests = h.digests;
}))
one_more rs qs l m e (inr (inr (inl h))) = inr (inr (inl (record { of_zero = h.of_zero; is = older rs l h.of_zero h.is; digest = h.digest })))
one_more rs qs l m e (inr (inr (inr h))) = inr (inr (inr (record { of_zero = h.of_zero; is = older qs m h.of_zero h.is; digest = h.digest })))

other_messages : (x y : List ℕ) → bytes_eq x y ≡ false → x ≡ y → ⊥
other_messages x y n e = false≢true (sym n ∙ (ap (λ z. bytes_eq z y) e ∙ bytes_eq-itself y))

tells : (rs qs : List Line) → digest rs ≡ digest qs → Told (forward rs) (forward qs)
tells [] [] e = inl refl
tells [] (m ∷ qs) e = inr (inr (inr (record { of_zero = message_of (digest qs) m; is = newest qs m; digest = sym (e ∙ digest_first qs m) })))
tells (l ∷ rs) [] e = inr (inr (inl (record { of_zero = message_of (digest rs) l; is = newest rs l; digest = sym (digest_first rs l) ∙ e })))
tells (l ∷ rs) (m ∷ qs) e = by (bytes_eq (message_of (digest rs) l) (message_of (digest qs) m)) refl (tells rs qs)
  where
    same : sha256 (message_of (digest rs) l) ≡ sha256 (message_of (digest qs) m)
    same = sym (digest_first rs l) ∙ (e ∙ digest_first qs m)

    by : (b : Bool) → bytes_eq (message_of (digest rs) l) (message_of (digest qs) m) ≡ b → (digest rs ≡ digest qs → Told (forward rs) (forward qs))
        → Told (forward (l ∷ rs)) (forward (m ∷ qs))
    by true h later =
        let k = same_message rs qs l m (same-bytes_eq (message_of (digest rs) l) (message_of (digest qs) m) h) in
        one_more rs qs l m k.1 (later k.0)
    by false h later = inr (inl (record {
      one = message_of (digest rs) l;
      other = message_of (digest qs) m;
      of_one = newest rs l;
      of_other = newest qs m;
      differ = other_messages (message_of (digest rs) l) (message_of (digest qs) m) h;
      digests = same;
    }))

pub DigestsTell-digest_of : DigestsTell
DigestsTell-digest_of = λ ls ms e.
    let a = backward ls in
    let b = backward ms in
    let h = tells a.lines b.lines (ap (digest_behind no_digest) a.is ∙ (e ∙ ap (digest_behind no_digest) (sym b.is))) in
    subst (λ (z : List Line). Told z ms) a.is (subst (λ (z : List Line). Told (forward a.lines) z) b.is h)

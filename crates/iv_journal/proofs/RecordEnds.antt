-- Where whole records end, line by line.
use Rattle.std.proofs.Common.{◌≡◌, ℕ, ◌+◌, ◌≤◌, Bool, true, false, cond, List, [], ◌∷◌, ◌++◌, append_assoc, take, length, length-append, refl, ap, ◌∙◌, sym, subst, arith}
use Rattle.iv_journal.specs.Journal.{Line, body_of, bytes_of, digest_behind, digest_of, is_text, journal_of, no_digest}
use Rattle.iv_journal.specs.Reading.{Begins, BeginsNoLine, before_whole, whole}
use Rattle.iv_journal.specs.Ends.{AreEnded}
use Rattle.iv_journal.specs.declared.reading.End.{End}
use Rattle.iv_journal.proofs.Bodies.{length-body_of, BeginsNoLine-HasNoNewline}
use Rattle.iv_journal.proofs.Readings.{AllText, bytes_of-append, digest_behind-append}

-- ---- whole records

before_some : (m : Line) (ls : List Line) (l : Line) → before_whole m (ls ++ l ∷ []) ≡ m ∷ (ls ++ l ∷ [])
before_some m [] l = refl
before_some m (x ∷ ls) l = refl

whole_last : (ls : List Line) (l : Line) → l.is_last ≡ true → whole (ls ++ l ∷ []) ≡ ls ++ l ∷ []
whole_last [] l e = ap (λ b. cond b (l ∷ []) []) e
whole_last (m ∷ ls) l e = ap (before_whole m) (whole_last ls l e) ∙ before_some m ls l

whole_part : (ls : List Line) (l : Line) → l.is_last ≡ false → whole (ls ++ l ∷ []) ≡ whole ls
whole_part [] l e = ap (λ b. cond b (l ∷ []) []) e
whole_part (m ∷ ls) l e = ap (before_whole m) (whole_part ls l e)

-- whole records stand at the front
pub take-whole_lines : (ls : List Line) → take (length (whole ls)) ls ≡ whole ls
take-whole_lines [] = refl
take-whole_lines (l ∷ ls) = onto (whole ls) (take-whole_lines ls)
  where
    one : (b : Bool) → take (length (cond b (l ∷ []) [])) (l ∷ ls) ≡ cond b (l ∷ []) []
    one true = refl
    one false = refl

    onto : (w : List Line) → take (length w) ls ≡ w → take (length (before_whole l w)) (l ∷ ls) ≡ before_whole l w
    onto [] h = one l.is_last
    onto (m ∷ ms) h = ap (λ z. l ∷ z) h

-- ---- one line more

all_push : (ls : List Line) (l : Line) → AllText ls → is_text l.text ≡ true → AllText (ls ++ l ∷ [])
all_push [] l a t = (t, tt)
all_push (m ∷ ls) l a t = (a.0, all_push ls l a.1 t)

-- the lines that were read, and what is left
pub record IsOn (bytes : List ℕ) (ls : List Line) (rest : List ℕ) (at end : End) : Type 0 where
  pub all : bytes ≡ journal_of ls ++ rest
  pub texts : AllText ls
  pub ended : AreEnded ls at
  pub kept : AreEnded (whole ls) end

-- one line more
pub record IsLine (at : End) (rest next : List ℕ) (l : Line) (now : End) : Type 0 where
  pub text : is_text l.text ≡ true
  pub bytes : rest ≡ body_of at.digest l ++ 10 ∷ next
  pub lines : now.lines ≡ at.lines + 1
  pub length : now.length ≡ at.length + (76 + length l.text)
  pub digest : now.digest ≡ digest_of at.digest l

length_line : (d : List ℕ) (l : Line) (next : List ℕ) → length (body_of d l ++ 10 ∷ next) ≡ 76 + length l.text + length next
length_line d l next =
    let a = length-append (body_of d l) (10 ∷ next) in
    let b = length-body_of d l in
    omega (arith, a, b)

ended_on : (ls : List Line) (at now : End) (rest next : List ℕ) (l : Line) → AreEnded ls at → IsLine at rest next l now → AreEnded (ls ++ l ∷ []) now
ended_on ls at now rest next l h k =
    let d = digest_behind no_digest ls in
    let a = length-append ls (l ∷ []) in
    let b = ap length (bytes_of-append no_digest ls (l ∷ [])) in
    let c = length-append (journal_of ls) (bytes_of (digest_behind no_digest ls) (l ∷ [])) in
    let e = length_line (digest_behind no_digest ls) l [] in
    let lines = k.lines in
    let were = h.lines in
    let bytes = k.length in
    let had = h.length in
    record {
      lines = omega (arith, a, lines, were);
      length = omega (arith, b, c, e, bytes, had);
      digest = k.digest ∙ (ap (λ z. digest_of z l) h.digest ∙ sym (digest_behind-append no_digest ls (l ∷ [])));
    }

end_on : (ls : List Line) (l : Line) (now end next : End) (b : Bool) → l.is_last ≡ b → AreEnded (ls ++ l ∷ []) now → AreEnded (whole ls) end → next ≡ cond b now end
    → AreEnded (whole (ls ++ l ∷ [])) next
end_on ls l now end next true b h k e = subst (λ (x : End). AreEnded (whole (ls ++ l ∷ [])) x) (sym e) (subst (λ (w : List Line). AreEnded w now) (sym (whole_last ls l b)) h)
end_on ls l now end next false b h k e = subst (λ (x : End). AreEnded (whole (ls ++ l ∷ [])) x) (sym e) (subst (λ (w : List Line). AreEnded w end) (sym (whole_part ls l b)) k)

pub IsOn-next : (bytes : List ℕ) (ls more : List Line) (rest next : List ℕ) (l : Line) (at now end last : End) → IsOn bytes ls rest at end → IsLine at rest next l now
    → last ≡ cond l.is_last now end → more ≡ ls ++ l ∷ [] → IsOn bytes more next now last
IsOn-next bytes ls more rest next l at now end last h k e m =
    let d = digest_behind no_digest ls in
    let ended = ended_on ls at now rest next l h.ended k in
    let written : journal_of ls ++ rest ≡ journal_of (ls ++ l ∷ []) ++ next =
    ap (λ z. journal_of ls ++ z) (k.bytes ∙ ap (λ z. body_of z l ++ 10 ∷ next) h.ended.digest)
    ∙ (ap (λ z. journal_of ls ++ z) (sym (append_assoc (body_of (digest_behind no_digest ls) l) (10 ∷ []) next))
    ∙ (sym (append_assoc (journal_of ls) (bytes_of (digest_behind no_digest ls) (l ∷ [])) next)
    ∙ ap (λ z. z ++ next) (sym (bytes_of-append no_digest ls (l ∷ []))))) in
    subst (λ (z : List Line). IsOn bytes z next now last) (sym m)
    (record { all = h.all ∙ written; texts = all_push ls l h.texts k.text; ended = ended; kept = end_on ls l now end last l.is_last refl ended h.kept e })

-- a line fits within the bytes
pub le-line : (bytes : List ℕ) (ls : List Line) (rest next : List ℕ) (l : Line) (at end : End) → IsOn bytes ls rest at end → rest ≡ body_of at.digest l ++ 10 ∷ next
    → at.length + (76 + length l.text) ≤ length bytes
le-line bytes ls rest next l at end h e =
    let a = ap length h.all in
    let b = length-append (journal_of ls) rest in
    let c = ap length e in
    let k = length_line at.digest l next in
    let f = h.ended.length in
    omega (arith, a, b, c, k, f)

few_lines : (d : List ℕ) (ls : List Line) → length ls ≤ length (bytes_of d ls)
few_lines d [] = omega arith
few_lines d (l ∷ ls) =
    let a = few_lines (digest_of d l) ls in
    let b = length-append (body_of d l) (10 ∷ bytes_of (digest_of d l) ls) in
    omega (arith, a, b)

pub le-lines : (bytes : List ℕ) (ls : List Line) (rest : List ℕ) (at end : End) → IsOn bytes ls rest at end → (at.lines ≤ at.length) × (at.length ≤ length bytes)
le-lines bytes ls rest at end h =
    let a = few_lines no_digest ls in
    let b = h.ended.lines in
    let c = h.ended.length in
    let e = ap length h.all in
    let f = length-append (journal_of ls) rest in
    (omega (arith, a, b, c), omega (arith, c, e, f))

-- ---- no line more

pub Begins-BeginsNoLine : (bytes : List ℕ) (ls : List Line) (rest : List ℕ) (at end : End) → IsOn bytes ls rest at end → BeginsNoLine at.digest rest → Begins bytes ls rest
Begins-BeginsNoLine bytes ls rest at end h none =
    record { all = h.all; texts = h.texts; furthest = subst (λ (d : List ℕ). BeginsNoLine d rest) h.ended.digest none }

nothing : (xs : List ℕ) → length xs ≤ 0 → xs ≡ []
nothing [] h = refl
nothing (x ∷ xs) h = absurd (let no : ⊥ = omega (arith, h) in no)

pub Begins-at_end : (bytes : List ℕ) (ls : List Line) (rest : List ℕ) (at end : End) → IsOn bytes ls rest at end → length bytes ≤ at.length
    → Begins bytes ls rest
Begins-at_end bytes ls rest at end h l =
    let a = ap length h.all in
    let b = length-append (journal_of ls) rest in
    let c = h.ended.length in
    let none : rest ≡ [] = nothing rest (omega (arith, a, b, c, l)) in
    Begins-BeginsNoLine bytes ls rest at end h (subst (λ (z : List ℕ). BeginsNoLine at.digest z) (sym none) (BeginsNoLine-HasNoNewline at.digest [] refl))

pub IsOn-start : (bytes : List ℕ) (ls : List Line) (at : End) → ls ≡ [] → at.lines ≡ 0 → at.length ≡ 0 → at.digest ≡ no_digest → IsOn bytes ls bytes at at
IsOn-start bytes ls at e a b c =
    let ended : AreEnded [] at = record { lines = a; length = b; digest = c } in
    subst (λ (z : List Line). IsOn bytes z bytes at at) (sym e) (record { all = refl; texts = tt; ended = ended; kept = ended })

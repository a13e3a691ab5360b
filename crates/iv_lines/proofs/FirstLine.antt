-- The first line, as it is read byte by byte.
use Rattle.std.proofs.Common.{◌≡◌, ◌≢◌, ℕ, zero, suc, ◌+◌, ◌-◌, ◌<◌, ◌==◌, true, false, List, [], ◌∷◌, ◌++◌, length, take, Option, Some, None, ap, ◌∙◌, sym, refl, arith, cond, append_assoc, append-nil, zero-add, suc-add, length-append}
use Rattle.std.specs.Prelude.{Vec, Result, Ok, Err, OnOk, is_err}
use Rattle.std.specs.declared.alloc.Global.{Global}
use Rattle.std.proofs.lemmas.Bool.Decides.{nat_tests}
use Rattle.std.proofs.lemmas.List.Elements.{All-head, All-tail, All-same, All-append}
use Rattle.std.specs.Io.KnownBytes.{IsAtEnd, Keeps, prepend_known}
use Rattle.std.specs.List.{All}
use Rattle.iv_lines.specs.Ahead.{TakesPart}
use Rattle.iv_lines.specs.Cut.{nothing, whole, cut_from, last_line}
use Rattle.iv_lines.specs.Reads.{IsCut, IsCutShort, IsBegun, cut_of}
use Rattle.iv_lines.specs.declared.lines.Next.{Next}
use Rattle.iv_lines.specs.declared.lines.Next.TheVariants.{Nothing, Line, Endless}

none_more : (bs : List ℕ) (n : ℕ) → length bs ≡ 0 → take n bs ≡ []
none_more [] zero l = refl
none_more [] (suc n) l = refl
none_more (b ∷ bs) n l = absurd (omega arith)

cut_end : (room : ℕ) (line : List ℕ) → 0 < room → cut_from room line [] ≡ last_line line
unfolding cut_from
cut_end zero line h = absurd (omega arith)
cut_end (suc room) line h = refl

cut_byte : (room : ℕ) (line : List ℕ) (b : ℕ) (bs : List ℕ) → cut_from (suc room) line (b ∷ bs) ≡ cond (b == 10) (whole line bs) (cut_from room (line ++ b ∷ []) bs)
unfolding cut_from
cut_byte room line b bs = refl

pub IsBegun-nothing : (old : Option (List ℕ)) → IsBegun 65537 [] old old
IsBegun-nothing None = tt
IsBegun-nothing (Some bs) = (refl, refl)

-- where no byte is left
pub ends : (old mid new : Option (List ℕ)) (room : ℕ) (line : List ℕ) (next : Next) → 0 < room → IsBegun room line old mid → Keeps mid new × IsAtEnd new → cut_of next [] ≡ last_line line → IsCut old next new
ends None mid new room line next h b c k = tt
ends (Some bs) None new room line next h b c k = absurd b
ends (Some bs) (Some xs) None room line next h b c k = absurd c.0
ends (Some bs) (Some xs) (Some ys) room line next h b c k = sym b.0 ∙ (ap (cut_from room line) (sym c.0 ∙ c.1) ∙ (cut_end room line h ∙ (sym k ∙ ap (cut_of next) (sym c.1))))

-- bytes without newline are added to the line one by one
cut_part : (k : ℕ) (line part bs : List ℕ) → All (λ b. b ≢ 10) part → cut_from (length part + k) line (part ++ bs) ≡ cut_from k (line ++ part) bs
cut_part k line [] bs p = (λ i. cut_from (zero-add k i) (sym (append-nil line) i) bs)
cut_part k line (b ∷ part) bs p =
    let n : (b == 10) ≡ false = let h = All-head (λ b. b ≢ 10) b part p in grind (arith, nat_tests) in
    ap (λ m. cut_from m line (b ∷ (part ++ bs))) (suc-add (length part) k)
    ∙ (cut_byte (length part + k) line b (part ++ bs) ∙ ap (λ t. cond t (whole line (part ++ bs)) (cut_from (length part + k) (line ++ b ∷ []) (part ++ bs))) n
    ∙ (cut_part k (line ++ b ∷ []) part bs (All-tail (λ b. b ≢ 10) b part p) ∙ ap (λ l. cut_from k l bs) (append_assoc line (b ∷ []) part)))

-- where a read keeps what is known
pub IsBegun-Keeps : (room : ℕ) (line : List ℕ) (old mid new : Option (List ℕ)) → IsBegun room line old mid → Keeps mid new → IsBegun room line old new
IsBegun-Keeps room line None mid new b k = tt
IsBegun-Keeps room line (Some os) None new b k = absurd b
IsBegun-Keeps room line (Some os) (Some xs) None b k = absurd k
IsBegun-Keeps room line (Some os) (Some xs) (Some ys) b k = (ap (cut_from room line) k ∙ b.0, b.1 ∙ ap (λ v. line ++ v) (sym k))

pub OnOk-not_is_err : {T E : Type 0} (r : Result T E) (P : Type 0) → is_err r ≡ false → OnOk r P → P
OnOk-not_is_err (Ok x) P e h = h
OnOk-not_is_err (Err x) P e h = cc

pub IsAtEnd-prepend_known : (ahead : List ℕ) (left : Option (List ℕ)) → ahead ≡ [] → IsAtEnd left → IsAtEnd (prepend_known ahead left)
IsAtEnd-prepend_known ahead None e h = tt
IsAtEnd-prepend_known ahead (Some xs) e h = (λ i. e i ++ h i)

-- where a part without newline is taken
pub IsBegun-TakesPart : (old left : Option (List ℕ)) (ahead later line longer : List ℕ) → length line < 65537 → IsBegun (65537 - length line) line old (prepend_known ahead left) → TakesPart ahead later line longer false → IsBegun (65537 - length longer) longer old (prepend_known later left)
IsBegun-TakesPart None left ahead later line longer room b t = tt
IsBegun-TakesPart (Some os) None ahead later line longer room b t = absurd b
IsBegun-TakesPart (Some os) (Some xs) ahead later line longer room b t =
    let long : length longer ≡ length line + length t.part = simp (t.moved, length-append) refl in
    let w = t.within in
    let more : 65537 - length line ≡ length t.part + (65537 - length longer) = omega arith in
    let rest : ahead ++ xs ≡ t.part ++ (later ++ xs) = ap (λ v. v ++ xs) t.taken ∙ append_assoc t.part later xs in (
      sym ((λ i. cut_from (more i) line (rest i)) ∙ (cut_part (65537 - length longer) line t.part (later ++ xs) t.plain ∙ ap (λ l. cut_from (65537 - length longer) l (later ++ xs)) (sym t.moved))) ∙ b.0,
      b.1 ∙ (ap (λ v. line ++ v) rest ∙ (sym (append_assoc line t.part (later ++ xs)) ∙ ap (λ l. l ++ (later ++ xs)) (sym t.moved))),
    )

-- where a newline is taken
pub IsCut-TakesPart : (old left : Option (List ℕ)) (ahead later line : List ℕ) (longer : Vec ℕ Global) → length line < 65537 → IsBegun (65537 - length line) line old (prepend_known ahead left) → TakesPart ahead later line longer.items true → IsCut old (Line longer) (prepend_known later left)
IsCut-TakesPart None left ahead later line longer room b t = tt
IsCut-TakesPart (Some os) None ahead later line longer room b t = absurd b
IsCut-TakesPart (Some os) (Some xs) ahead later line longer room b t =
    let long : length longer.items ≡ length line + length t.part = simp (t.moved, length-append) refl in
    let w = t.room refl in
    let k = 65537 - length longer.items - 1 in
    let more : 65537 - length line ≡ length t.part + suc k = omega arith in
    let rest : ahead ++ xs ≡ t.part ++ (10 ∷ (later ++ xs)) = ap (λ v. v ++ xs) t.taken ∙ append_assoc t.part (10 ∷ later) xs in
    sym b.0 ∙ ((λ i. cut_from (more i) line (rest i)) ∙ (cut_part (suc k) line t.part (10 ∷ (later ++ xs)) t.plain ∙ (cut_byte k (line ++ t.part) 10 (later ++ xs) ∙ ap (λ l. whole l (later ++ xs)) (sym t.moved))))

-- what has come of the line has no newline
pub All-TakesPart : (ahead later line longer : List ℕ) → All (λ b. b ≢ 10) line → TakesPart ahead later line longer false → All (λ b. b ≢ 10) longer
All-TakesPart ahead later line longer p t = All-same (λ b. b ≢ 10) longer (line ++ t.part) t.moved (All-append (λ b. b ≢ 10) line t.part p t.plain)

pub lt-TakesPart : (ahead later line longer : List ℕ) → TakesPart ahead later line longer false → length line < length longer
lt-TakesPart ahead later line longer t =
    let long : length longer ≡ length line + length t.part = simp (t.moved, length-append) refl in
    let some = t.some refl in omega arith

-- where there is no room for more
pub IsCut-Endless : (old new : Option (List ℕ)) (line : List ℕ) → IsBegun 0 line old new → IsCut old Endless new
unfolding cut_from
IsCut-Endless None new line b = tt
IsCut-Endless (Some os) None line b = absurd b
IsCut-Endless (Some os) (Some ys) line b = sym b.0

last_of : (line : List ℕ) → (length line == 0) ≡ false → whole line [] ≡ last_line line
last_of [] h = cc
last_of (b ∷ bs) h = refl

last_none : (line : List ℕ) → (length line == 0) ≡ true → nothing ≡ last_line line
last_none [] h = refl
last_none (b ∷ bs) h = absurd (grind (arith, nat_tests))

pub IsCut-Nothing : (old mid new : Option (List ℕ)) (i : ℕ) (line : List ℕ) → i < 65537 → IsBegun (65537 - i) line old mid → Keeps mid new × IsAtEnd new → (length line == 0) ≡ true → IsCut old Nothing new
IsCut-Nothing old mid new i line h b r e = ends old mid new (65537 - i) line Nothing (omega arith) b r (last_none line e)

pub IsCut-Line : (old mid new : Option (List ℕ)) (i : ℕ) (line : Vec ℕ Global) → i < 65537 → IsBegun (65537 - i) line.items old mid → Keeps mid new × IsAtEnd new → (length line.items == 0) ≡ false → IsCut old (Line line) new
IsCut-Line old mid new i line h b r e = ends old mid new (65537 - i) line.items (Line line) (omega arith) b r (last_of line.items e)

-- where a read fails
pub IsCutShort-IsBegun : (old mid new : Option (List ℕ)) (room : ℕ) (line : List ℕ) → IsBegun room line old mid → Keeps mid new → All (λ b. b ≢ 10) line → length line < 65537 → IsCutShort old new
IsCutShort-IsBegun None mid new room line b k p l = tt
IsCutShort-IsBegun (Some os) None new room line b k p l = absurd b
IsCutShort-IsBegun (Some os) (Some xs) None room line b k p l = absurd k
IsCutShort-IsBegun (Some os) (Some xs) (Some ys) room line b k p l = (line, b.1 ∙ ap (λ v. line ++ v) (sym k), p, l)

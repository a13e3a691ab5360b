-- What a talk has heard, put together of what was read of it.
use Rattle.std.proofs.Common.{◌≡◌, ℕ, ◌+◌, List, ◌++◌, drop, length, take, Option, None, Some, ap, ◌∙◌, sym, subst, arith, append_assoc, length-append}
use Rattle.std.specs.Prelude.{◌-◌, IfErr, IfSome, Result, Ok, Err}
use Rattle.std.proofs.Math.Seq.{drop-append_seam}
use Rattle.std.proofs.lemmas.List.{take-append-drop}
use Rattle.iv_door.specs.Answers.{Fault}
use Rattle.iv_door.specs.Talk.{Heard, Hears, HearsLine, Talk, a_line, fails}
use Rattle.iv_door.specs.Views.{IsFailingBy, IsPassed}

pub err_map : {X E : Type 0} (r : Result X E) (P Q : E → Type 0) → ((e : E) → P e → Q e) → IfErr r P → IfErr r Q
err_map (Ok x) P Q f h = tt
err_map (Err e) P Q f h = f e h

-- what fails so
pub failing : (P : Heard × Talk → Type 0) (x : Heard × Talk) → P x → (o : Option Fault) → IfSome o (λ g. x.0 ≡ fails g) → IsFailingBy P o
failing P x p None h = tt
failing P x p (Some g) h = (x.1, subst (λ z. P (z, x.1)) h p)

-- the line that was passed is heard
pub heard_line : (t u : Talk) (line : List ℕ) (x : Heard × Talk) → IsPassed t (Some line) u → HearsLine u line x → Hears t x
heard_line t u line x p h = a_line line p.0 x p.1 p.2 (subst (λ z. HearsLine z line x) p.3 h)

pub failing_line : (t u : Talk) (line : List ℕ) → IsPassed t (Some line) u → (o : Option Fault) → IsFailingBy (HearsLine u line) o → IsFailingBy (Hears t) o
failing_line t u line p None h = tt
failing_line t u line p (Some g) h = (h.0, heard_line t u line (fails g, h.0) p h.1)

-- ---- what is left of bytes

less : (a b : ℕ) → a + b - b ≡ a
less a b = omega arith

-- what is left behind a front of what was left
pub left_behind : (bytes front rest : List ℕ) (p : ℕ) → front ++ rest ≡ drop p bytes → drop (length bytes - length rest) bytes ≡ rest
left_behind bytes front rest p h =
    let all : bytes ≡ (take p bytes ++ front) ++ rest = sym (take-append-drop p bytes) ∙ (ap (λ z. take p bytes ++ z) (sym h) ∙ sym (append_assoc (take p bytes) front rest)) in
    let count : length bytes - length rest ≡ length (take p bytes ++ front)
    = ap (λ (z : List ℕ). length z - length rest) all ∙ (ap (λ z. z - length rest) (length-append (take p bytes ++ front) rest) ∙ less (length (take p bytes ++ front)) (length rest)) in
    (λ i. drop (count i) (all i)) ∙ drop-append_seam (take p bytes ++ front) rest

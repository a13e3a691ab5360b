-- Who may be sent something, or is to go, is told of: something that is told has a text.
use Rattle.std.proofs.Common.{◌≡◌, ◌⊎◌, inl, inr, ◌<◌, ℕ, suc, ◌||◌, true, false, List, [], ◌∷◌, ◌++◌, length, ap, ◌∙◌, refl, sym, subst, arith}
use Rattle.std.specs.Prelude.{Contains, Option, Some, ◌==◌, not}
use Rattle.std.proofs.lemmas.Bool.{ne_eqb, or_right}
use Rattle.iv_message.specs.Lines.{IsLine}
use Rattle.iv_message.specs.Told.{Told, told_text}
use Rattle.iv_clients.specs.Clients.{Client, Shown, client_at, text_shown}
use Rattle.iv_clients.specs.Kept.{is_due, kept}
use Rattle.iv_gate.specs.Gate.{Gate}
use Rattle.iv_gateway.specs.Views.{IsGate}
use Rattle.iv_gateway.specs.declared.gateway.Gateway.{Gateway}
use Rattle.iv_desk.specs.Front.{Front}
use Rattle.iv_desk.specs.Desks.{IsBehind, IsCalledBehind, at_each}
use Rattle.iv_desk.specs.declared.place.Place.{Place}

-- the law of texts that are told
abbrev pub AreLines : Type 0
AreLines = (t : Told) → IsLine (told_text t)

text_there : AreLines → (t : Told) → told_text t ≡ [] → ⊥
text_there l t e = let w = l t in ended_by w.0 (sym e ∙ w.1)
  where
    ended_by : (front : List ℕ) → [] ≡ front ++ 10 ∷ [] → ⊥
    ended_by [] e = cc e
    ended_by (x ∷ front) e = cc e

pub not_nothing-text_shown : AreLines → (s : Shown) (ss : List Shown) → text_shown (s ∷ ss) ≡ [] → ⊥
not_nothing-text_shown l s ss e = text_there l s.told (first_empty (told_text s.told) (text_shown ss) e)
  where
    first_empty : (xs ys : List ℕ) → xs ++ ys ≡ [] → xs ≡ []
    first_empty [] ys h = refl
    first_empty (y ∷ xs) ys h = absurd (cc h)

pub not_zero-suc : (k : ℕ) → suc k ≡ 0 → ⊥
not_zero-suc k e = let no : ⊥ = omega (arith, e) in no

some_text : AreLines → (ss : List Shown) → 0 < length ss → not (length (text_shown ss) == 0) ≡ true
some_text l [] h = absurd (let no : ⊥ = omega (arith, h) in no)
some_text l (s ∷ ss) h = by (text_shown (s ∷ ss)) refl
  where
    by : (text : List ℕ) → text_shown (s ∷ ss) ≡ text → not (length text == 0) ≡ true
    by [] e = absurd (not_nothing-text_shown l s ss e)
    by (b ∷ bs) e = ap not (ne_eqb (suc (length bs)) 0 (not_zero-suc (length bs)))

called_due : AreLines → (c : Client) → (c.dropped ≡ true) ⊎ (0 < length c.sendable) → is_due (kept c) ≡ true
called_due l c (inl gone) = ap (λ b. b || not (length (text_shown c.sendable) == 0)) gone
called_due l c (inr some) = or_right c.dropped (not (length (text_shown c.sendable) == 0)) (some_text l c.sendable some)

-- the numbers that a gateway tells of are all that are called
pub IsCalledBehind-at_each : AreLines → (f : ℕ → Front → Front) (d : Front) (v x : Gateway) (before slots : List (Option Place)) (told numbers : List ℕ)
    → IsBehind d v before → numbers ≡ told
    → ((g : Gate) (m : ℕ) (c : Client) → IsGate g v → g.dead ≡ false → client_at g.clients m ≡ Some c → is_due (kept c) ≡ true → Contains told m)
    → IsBehind (at_each f numbers d) x slots → IsCalledBehind f d x slots
IsCalledBehind-at_each l f d v x before slots told numbers b same listed stands = record {
  numbers = numbers;
  all = λ m called. subst (λ z. Contains z m) (sym same) (listed d.gate m called.0 b.gate b.alive called.1 (called_due l called.0 called.2));
  stands = stands;
}

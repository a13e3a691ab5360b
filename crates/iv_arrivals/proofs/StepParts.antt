-- The parts of a step, one after another: its names are learned, and its requests are facts.
use Rattle.std.proofs.Common.{◌≡◌, ◌∙◌, ℕ, ◌+◌, Bool, true, false, cond, List, [], ◌∷◌, ◌++◌, map, Some, ap, sym, append_assoc}
use Rattle.std.specs.Prelude.{flat_map}
use Rattle.iv_once.specs.Names as once
use Rattle.iv_once.specs.Names.{Named, Names, learned, pushed}
use Rattle.iv_steps.specs.Steps.{Fact}
use Rattle.iv_records.specs.Journal.{Request}
use Rattle.iv_records.specs.Names.{limits}
use Rattle.iv_gate.specs.Arriving.{fact_of, first_known, is_new, not_new}
use Rattle.iv_arrivals.specs.Entering.{shape_in}

-- ---- names, as long as each is new

pub learns_on : (place : ℕ) (n : Named) (rest : List Named) (known now : Names) (is : Bool) → known.limits ≡ limits
    → is ≡ once.is_new known.limits known.known n.ask → is ≡ true → now ≡ pushed known (once.named n)
    → first_known (place + 1) (n ∷ rest) known.known ≡ first_known (place + 1 + 1) rest now.known
learns_on place n rest known now is l e t m = λ i. cond (new i) (first_known (place + 1 + 1) rest (learn i)) (Some (not_new (place + 1)))
  where
    new : is_new known.known n.ask ≡ true
    new = ap (λ z. once.is_new z known.known n.ask) (sym l) ∙ (sym e ∙ t)

    learn : learned limits (once.named n) known.known ≡ now.known
    learn = ap (λ z. learned z (once.named n) known.known) (sym l) ∙ sym (ap (λ (z : Names). z.known) m)

pub stops_at : (place : ℕ) (n : Named) (rest : List Named) (known : Names) (is : Bool) → known.limits ≡ limits
    → is ≡ once.is_new known.limits known.known n.ask → is ≡ false → first_known (place + 1) (n ∷ rest) known.known ≡ Some (not_new (place + 1))
stops_at place n rest known is l e t =
    ap (λ b. cond b (first_known (place + 1 + 1) rest (learned limits (once.named n) known.known)) (Some (not_new (place + 1))))
    (ap (λ z. once.is_new z known.known n.ask) (sym l) ∙ (sym e ∙ t))

-- ---- requests: their facts, and what they make of the shape

pub facts_on : (all rest : List Request) (q r : Request) (facts now : List Fact) → q ≡ r → map fact_of all ≡ facts ++ map fact_of (r ∷ rest)
    → now ≡ facts ++ fact_of q ∷ [] → map fact_of all ≡ now ++ map fact_of rest
facts_on all rest q r facts now v h n =
    h ∙ (sym (append_assoc facts (fact_of r ∷ []) (map fact_of rest)) ∙ ap (λ z. z ++ map fact_of rest) (ap (λ z. facts ++ fact_of z ∷ []) (sym v) ∙ sym n))

pub makes_on : (all rest : List Request) (q r : Request) (start old now : List ℕ) → q ≡ r
    → start ++ flat_map shape_in all ≡ old ++ flat_map shape_in (r ∷ rest) → now ≡ old ++ shape_in q → start ++ flat_map shape_in all ≡ now ++ flat_map shape_in rest
makes_on all rest q r start old now v h n =
    h ∙ (sym (append_assoc old (shape_in r) (flat_map shape_in rest)) ∙ ap (λ z. z ++ flat_map shape_in rest) (ap (λ z. old ++ shape_in z) (sym v) ∙ sym n))

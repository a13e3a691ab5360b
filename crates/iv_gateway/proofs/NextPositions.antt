-- Where the log stands after what is decided next, as the code has it.
use Rattle.std.proofs.Common.{◌≡◌, ◌∙◌, ℕ, ◌+◌, ◌<◌, Bool, true, false, cond, not, Option, Some, None, refl, ap, sym}
use Rattle.std.specs.Prelude.{◌&&◌, ◌^◌, SomeIff, nat_lt}
use Rattle.std.proofs.lemmas.Bool.{false≢true, lt-ltb, ltb-true}
use Rattle.iv_records.specs.Names.{is_count}
use Rattle.iv_gate.specs.Arriving.{position}
use Rattle.iv_gate.specs.Gate.{Gate, next_position}

pub next_of : (g : Gate) (at : ℕ) (o : Option ℕ) → at ≡ position g → g.leads ≡ true → SomeIff o (at + 1 < 2 ^ 64) (at + 1) → o ≡ next_position g
next_of g at o e l s = by o (nat_lt (at + 1) (2 ^ 64)) refl s ∙ (λ i. cond (sym l i && is_count (e i + 1)) (Some (e i + 1)) None)
  where
    by : (o : Option ℕ) (b : Bool) → nat_lt (at + 1) (2 ^ 64) ≡ b → SomeIff o (at + 1 < 2 ^ 64) (at + 1) → o ≡ cond (true && b) (Some (at + 1)) None
    by None true h s = absurd (s (ltb-true (at + 1) (2 ^ 64) h))
    by None false h s = refl
    by (Some x) true h s = ap Some s.1
    by (Some x) false h s = absurd (false≢true (sym h ∙ lt-ltb (at + 1) (2 ^ 64) s.0))

-- who leads nothing makes no step
pub none_next : (g : Gate) → g.leads ≡ false → None ≡ next_position g
none_next g l = sym (ap (λ b. cond (b && is_count (position g + 1)) (Some (position g + 1)) None) l)

pub not_turned : (r s : Bool) → s ≡ not r → r ≡ not s
not_turned true s h = sym (ap not h)
not_turned false s h = sym (ap not h)

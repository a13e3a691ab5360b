-- Feeds that nobody follows, as the code closes them.
use Rattle.std.proofs.Common.{◌≡◌, ◌∙◌, ℕ, ◌+◌, ◌<◌, Bool, true, false, cond, List, [], ◌∷◌, length, drop, get_or, drop-cons, add-one, Option, Some, None}
use Rattle.std.proofs.Common.{option_map, ap, sym, subst}
use Rattle.iv_rows.specs.Options.{if_some}
use Rattle.iv_clients.specs.Clients.{is_followed}
use Rattle.iv_clients.specs.Feeds.{Feed, feed_of}
use Rattle.iv_gate.specs.Gate.{Gate, all_swept, shut, swept}
use Rattle.iv_gateway.specs.Views.{IsAlive}
use Rattle.iv_gateway.specs.declared.gateway.Gateway.{Gateway}

pub IsAlive-swept_followed : (g : Gate) (k : ℕ) (x : Gateway) (b : Bool) → b ≡ is_followed k g.clients → b ≡ true → IsAlive g x → IsAlive (swept g k) x
IsAlive-swept_followed g k x b e h a = subst (λ z. IsAlive (cond z g (if_some (feed_of g.feeds k) g (shut g))) x) (sym h ∙ e) a

swept_by : (g : Gate) (k : ℕ) (x : Gateway) (b : Bool) → b ≡ is_followed k g.clients → b ≡ false → (o : Option Feed) → o ≡ feed_of g.feeds k
    → IsAlive (if_some o g (shut g)) x → IsAlive (swept g k) x
swept_by g k x b e h o d a = subst (λ z. IsAlive (cond z g (if_some (feed_of g.feeds k) g (shut g))) x) (sym h ∙ e)
    (subst (λ z. IsAlive (if_some z g (shut g)) x) d a)

pub swept_none : (g : Gate) (k : ℕ) (x : Gateway) (b : Bool) → b ≡ is_followed k g.clients → b ≡ false → (o : Option Feed) → o ≡ feed_of g.feeds k
    → option_map {U = ℕ × ℕ} (λ f. (f.session, f.number)) o ≡ None → IsAlive g x → IsAlive (swept g k) x
swept_none g k x b e h None d p a = swept_by g k x b e h None d a
swept_none g k x b e h (Some f) d p a = cc

pub same-Some : {X : Type 0} (a b : X) → Some a ≡ Some b → a ≡ b
same-Some a b h = cc

pub IsAlive-swept : (g : Gate) (k : ℕ) (x : Gateway) (b : Bool) (n j : ℕ) → b ≡ is_followed k g.clients → b ≡ false → (o : Option Feed) → o ≡ feed_of g.feeds k
    → option_map {U = ℕ × ℕ} (λ f. (f.session, f.number)) o ≡ Some (n, j) → ((f : Feed) → f.session ≡ n → f.number ≡ j → IsAlive (shut g f) x)
    → IsAlive (swept g k) x
IsAlive-swept g k x b n j e h None d p a = cc
IsAlive-swept g k x b n j e h (Some f) d p a =
    let q = same-Some (f.session, f.number) (n, j) p in
    swept_by g k x b e h (Some f) d (a f (ap (λ (z : ℕ × ℕ). z.0) q) (ap (λ (z : ℕ × ℕ). z.1) q))

-- behind the code stands a gateway that the rest of the numbers leads to where all lead
pub record IsSweeping (g : Gate) (ks rest : List ℕ) (x : Gateway) : Type 0 where
  pub now : Gate
  pub gate : IsAlive now x
  pub leads : all_swept now rest ≡ all_swept g ks

pub IsSweeping-next : (g : Gate) (ks : List ℕ) (i : ℕ) (x y : Gateway) → i < length ks → IsSweeping g ks (drop i ks) x
    → ((h : Gate) → IsAlive h x → IsAlive (swept h (get_or ks i 0)) y)
    → IsSweeping g ks (drop (i + 1) ks) y
IsSweeping-next g ks i x y lt w step = record {
  now = swept w.now (get_or ks i 0);
  gate = step w.now w.gate;
  leads =
      let cut : drop i ks ≡ get_or ks i 0 ∷ drop (i + 1) ks = drop-cons ks i 0 lt ∙ ap (λ z. get_or ks i 0 ∷ drop z ks) (sym (add-one i)) in
      ap (all_swept w.now) (sym cut) ∙ w.leads;
}

pub IsAlive-all_swept : (g : Gate) (ks : List ℕ) (i : ℕ) (x : Gateway) → drop i ks ≡ [] → IsSweeping g ks (drop i ks) x → IsAlive (all_swept g ks) x
IsAlive-all_swept g ks i x e w = subst (λ z. IsAlive z x) (ap (all_swept w.now) (sym e) ∙ w.leads) w.gate

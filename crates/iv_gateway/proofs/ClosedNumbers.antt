-- A client's own number, as the code closes it.
use Rattle.std.proofs.Common.{◌≡◌, ◌∙◌, ℕ, Option, Some, None, option_map, ap, sym, subst}
use Rattle.std.specs.Prelude.{option_and_then}
use Rattle.serde_json.specs.Data.{Data}
use Rattle.iv_rows.specs.Options.{if_some}
use Rattle.iv_machine.specs.Act.{done, refused, unknown_subscription}
use Rattle.iv_message.specs.Told.{replied}
use Rattle.iv_clients.specs.Clients.{Client, at_client, client_at, closing, followed_by}
use Rattle.iv_clients.specs.Kept.{Kept, Places, kept, kept_slots}
use Rattle.iv_gate.specs.Gate.{Gate, closes, swept, tells}
use Rattle.iv_gateway.specs.Views.{IsAlive}
use Rattle.iv_gateway.specs.declared.gateway.Gateway.{Gateway}
use Rattle.iv_notices.proofs.ClientChanges.{client_at-kept_slots}

pub followed_by-kept_slots : (g : Gate) (c : Client) (m own : ℕ) (places : Places) (o : Option ℕ) → places ≡ kept_slots g.clients
    → client_at g.clients m ≡ Some c
    → o ≡ option_and_then (λ (k : Kept). followed_by k.subs own) (client_at places m) → followed_by c.subs own ≡ o
followed_by-kept_slots g c m own places o b e h =
    sym (h ∙ (ap (λ z. option_and_then (λ (k : Kept). followed_by k.subs own) (client_at z m)) b
    ∙ (ap (option_and_then (λ (k : Kept). followed_by k.subs own)) (client_at-kept_slots g.clients m)
    ∙ ap (λ z. option_and_then (λ (k : Kept). followed_by k.subs own) (option_map kept z)) e)))

pub IsAlive-closes_none : (g : Gate) (m : ℕ) (c : Client) (id : Option Data) (own : ℕ) (x : Gateway) → followed_by c.subs own ≡ None
    → IsAlive (tells g m (replied id (refused unknown_subscription))) x → IsAlive (closes g m c id own) x
IsAlive-closes_none g m c id own x e a =
    subst (λ z. IsAlive (if_some z (tells g m (replied id (refused unknown_subscription)))
    (λ k. swept (tells (record g { clients = at_client m (closing own) g.clients }) m (replied id done)) k)) x) (sym e) a

pub IsAlive-closes_some : (g : Gate) (m : ℕ) (c : Client) (id : Option Data) (own k : ℕ) (x : Gateway) → followed_by c.subs own ≡ Some k
    → IsAlive (swept (tells (record g { clients = at_client m (closing own) g.clients }) m (replied id done)) k) x → IsAlive (closes g m c id own) x
IsAlive-closes_some g m c id own k x e a =
    subst (λ z. IsAlive (if_some z (tells g m (replied id (refused unknown_subscription)))
    (λ j. swept (tells (record g { clients = at_client m (closing own) g.clients }) m (replied id done)) j)) x) (sym e) a

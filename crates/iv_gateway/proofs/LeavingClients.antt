-- A client that goes, as the code lets it go.
use Rattle.std.proofs.Common.{◌≡◌, ◌∙◌, ℕ, List, map, set, Option, Some, None, option_map, refl, ap, sym, subst}
use Rattle.std.specs.Prelude.{filter}
use Rattle.iv_rows.specs.Options.{if_some}
use Rattle.iv_access.specs.Rights.{Name}
use Rattle.iv_clients.specs.Clients.{Client, client_at}
use Rattle.iv_clients.specs.Feeds.{is_of_role}
use Rattle.iv_clients.specs.Kept.{Kept, Places, kept, kept_slots}
use Rattle.iv_gate.specs.Gate.{Gate, all_rested, all_swept, settles, went}
use Rattle.iv_gateway.specs.Views.{IsAlive}
use Rattle.iv_gateway.specs.declared.gateway.Gateway.{Gateway}
use Rattle.iv_notices.proofs.ClientChanges.{client_at-kept_slots}
use Rattle.iv_gateway.proofs.UnfollowedFeeds.{same-Some}

-- the gateway that a client of the role leaves, which followed these feeds
abbrev pub left_by : Gate → ℕ → Name → List ℕ → Gate
left_by g m role feeds = let h = all_swept (record g { clients = set g.clients m None }) feeds in settles (all_rested h (filter (is_of_role role) h.seats))

abbrev pub leaving : Kept → Name × List ℕ
leaving k = (k.role, map (λ s. s.feed) k.subs)

went_by : (g : Gate) (m : ℕ) (o : Option Client) (x : Gateway) → o ≡ client_at g.clients m
    → IsAlive (if_some o g (λ c. left_by g m c.role (map (λ s. s.feed) c.subs))) x → IsAlive (went g m) x
went_by g m o x e b = subst (λ z. IsAlive (if_some z g (λ c. left_by g m c.role (map (λ s. s.feed) c.subs))) x) e b

went_none : (g : Gate) (m : ℕ) (o : Option Client) (x : Gateway) → o ≡ client_at g.clients m → option_map {U = Name × List ℕ} leaving (option_map kept o) ≡ None
    → IsAlive g x → IsAlive (went g m) x
went_none g m None x e h b = went_by g m None x e b
went_none g m (Some c) x e h b = cc

went_some : (g : Gate) (m : ℕ) (role : Name) (feeds : List ℕ) (o : Option Client) (x : Gateway) → o ≡ client_at g.clients m
    → option_map {U = Name × List ℕ} leaving (option_map kept o) ≡ Some (role, feeds)
    → IsAlive (left_by g m role feeds) x → IsAlive (went g m) x
went_some g m role feeds None x e h b = cc
went_some g m role feeds (Some c) x e h b =
    let q = same-Some (leaving (kept c)) (role, feeds) h in
    went_by g m (Some c) x e (subst (λ (z : Name × List ℕ). IsAlive (left_by g m z.0 z.1) x) (sym q) b)

pub IsAlive-went_none : (g : Gate) (m : ℕ) (places : Places) (x : Gateway) → places ≡ kept_slots g.clients
    → option_map {U = Name × List ℕ} leaving (client_at places m) ≡ None → IsAlive g x → IsAlive (went g m) x
IsAlive-went_none g m places x b e a = went_none g m (client_at g.clients m) x refl
    (ap (option_map {U = Name × List ℕ} leaving) (sym (ap (λ z. client_at z m) b ∙ client_at-kept_slots g.clients m)) ∙ e) a

pub IsAlive-went_some : (g : Gate) (m : ℕ) (role : Name) (feeds : List ℕ) (places : Places) (x : Gateway) → places ≡ kept_slots g.clients
    → option_map {U = Name × List ℕ} leaving (client_at places m) ≡ Some (role, feeds)
    → IsAlive (left_by g m role feeds) x → IsAlive (went g m) x
IsAlive-went_some g m role feeds places x b e a = went_some g m role feeds (client_at g.clients m) x refl
    (ap (option_map {U = Name × List ℕ} leaving) (sym (ap (λ z. client_at z m) b ∙ client_at-kept_slots g.clients m)) ∙ e) a

-- Sockets that are closed one after another are over.
use Rattle.std.proofs.Common.{◌≡◌, ◌<◌, ◌⊎◌, inl, inr, ℕ, zero, suc, Bool, true, false, cond, ◌||◌, List, [], ◌∷◌, Option, Some, None, option_map, refl, ap, subst, sym, arith}
use Rattle.std.specs.Prelude.{codes}
use Rattle.iv_rows.specs.Options.{if_some}
use Rattle.iv_clients.specs.Clients.{at_client, client_at}
use Rattle.iv_peer.specs.Socket.{Socket, answer, close_of, closed, ended, is_open, telling}
use Rattle.iv_desk.specs.Front.{Front}
use Rattle.iv_desk.specs.Desks.{is_over_at}
use Rattle.iv_server.specs.Shutting.{ClosedAreOver, closed_below}

abbrev is_over_in : Option Socket → Bool
is_over_in o = if_some o true (λ s. s.over)

over_closed : (o : Option Socket) → is_over_in (option_map (closed 1013 (codes "The log is not followed now.")) o) ≡ true
over_closed None = refl
over_closed (Some s) = by (is_open s)
  where
    by : (b : Bool) → (cond b (telling (answer (close_of 1013 (codes "The log is not followed now."))) (ended s)) (ended s)).over ≡ true
    by true = refl
    by false = refl

over_there : (k : ℕ) (xs : List (Option Socket)) → is_over_in (client_at (at_client k (closed 1013 (codes "The log is not followed now.")) xs) k) ≡ true
over_there k [] = refl
over_there zero (x ∷ xs) = over_closed x
over_there (suc k) (x ∷ xs) = over_there k xs

stays_over : (k m : ℕ) (xs : List (Option Socket)) → is_over_in (client_at xs m) ≡ true
    → is_over_in (client_at (at_client k (closed 1013 (codes "The log is not followed now.")) xs) m) ≡ true
stays_over k m [] h = h
stays_over zero zero (x ∷ xs) h = over_closed x
stays_over zero (suc m) (x ∷ xs) h = h
stays_over (suc k) zero (x ∷ xs) h = h
stays_over (suc k) (suc m) (x ∷ xs) h = stays_over k m xs h

last_or_before : (m n : ℕ) → m < suc n → (m ≡ n) ⊎ (m < n)
last_or_before zero zero h = inl refl
last_or_before zero (suc n) h = inr (omega arith)
last_or_before (suc m) zero h = absurd (omega (arith, h))
last_or_before (suc m) (suc n) h = by (last_or_before m n (omega (arith, h)))
  where
    by : (m ≡ n) ⊎ (m < n) → (suc m ≡ suc n) ⊎ (suc m < suc n)
    by (inl e) = inl (ap suc e)
    by (inr l) = inr (omega (arith, l))

or_true : (a b : Bool) → b ≡ true → (a || b) ≡ true
or_true true b h = refl
or_true false b h = h

over_below : (n : ℕ) (d : Front) (m : ℕ) → m < n → is_over_in (client_at (closed_below n d).sockets m) ≡ true
over_below zero d m h = absurd (omega (arith, h))
over_below (suc n) d m h = by (last_or_before m n h) (λ l. over_below n d m l)
  where
    by : (m ≡ n) ⊎ (m < n) → (m < n → is_over_in (client_at (closed_below n d).sockets m) ≡ true) → is_over_in (client_at (closed_below (suc n) d).sockets m) ≡ true
    by (inl e) before = subst (λ k. is_over_in (client_at (closed_below (suc n) d).sockets k) ≡ true) (sym e) (over_there n (closed_below n d).sockets)
    by (inr l) before = stays_over n m (closed_below n d).sockets (before l)

pub closed_are_over : ClosedAreOver
closed_are_over n d m h = or_true (closed_below n d).gate.dead _ (over_below n d m h)

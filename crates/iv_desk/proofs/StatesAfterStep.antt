-- What stands behind the code once a step is made at a number, or at all.
use Rattle.std.proofs.Common.{◌≡◌, ℕ, zero, suc, ◌<◌, ◌≤◌, ◌+◌, true, false, cond, List, [], ◌∷◌, ◌++◌, length, get_or, set, replicate, take, Option, Some}
use Rattle.std.proofs.Common.{None, option_map, refl, ap, ◌∙◌, sym, subst, arith}
use Rattle.std.proofs.lemmas.List.{take_all, take_more}
use Rattle.iv_rows.specs.Options.{if_some}
use Rattle.iv_clients.specs.Clients.{at_client, client_at, is_free}
use Rattle.iv_gate.specs.Gate.{Gate}
use Rattle.iv_gateway.specs.Views.{IsGate}
use Rattle.iv_gateway.specs.declared.gateway.Gateway.{Gateway}
use Rattle.iv_peer.specs.Socket.{Socket, closed, passing, took}
use Rattle.iv_peer.specs.Lives as life
use Rattle.iv_desk.specs.Front.{Front, at_socket, dismissed, is_dropped, offered, offered_to, socket_at, turned_away, with_both}
use Rattle.iv_desk.specs.Desks.{AreLived, IsBehind, IsHeardAt, IsHeardBehind, IsHeardBy, IsHeardOut, IsHearing, IsLived, IsOfferedAt, at_each, place_of}
use Rattle.iv_desk.specs.Desks.{places_of, with_peer}
use Rattle.iv_desk.specs.declared.place.Place.{Place}
use Rattle.iv_desk.specs.declared.place.Hearing.{Hearing}
use Rattle.iv_desk.specs.declared.place.Hearing.TheVariants.{Over}
use Rattle.iv_clients.proofs.Slots.{client_at-at_other_client, client_at-at_client, same-Some, client_at-set_other}
use Rattle.iv_desk.proofs.Slots.{at_each_number, not_Some-None}
use Rattle.iv_desk.proofs.PresentedTokens.{Forgets, SameEffects, SameEffects-closed, Forgets-closed, has_presented-SameEffects, SameEffects-passing, Forgets-passing}
use Rattle.iv_desk.proofs.OneNumber.{LeavesMarks, IsHearing-start, dead-offered_to, IsLived-offered_to}

-- ---- lists of places

slot_of : (n : ℕ) (sockets : List (Option Socket)) (x : Option Place) → n < length (places_of sockets) → x ≡ get_or (places_of sockets) n x
    → x ≡ option_map place_of (client_at sockets n)
slot_of n [] x h e = absurd (let no : ⊥ = omega (arith, h) in no)
slot_of zero (s ∷ ss) x h e = e
slot_of (suc n) (s ∷ ss) x h e = slot_of n ss x (omega (arith, h)) e

past_none : (n : ℕ) (sockets : List (Option Socket)) → length (places_of sockets) ≤ n → client_at sockets n ≡ None
past_none n [] h = refl
past_none zero (s ∷ ss) h = absurd (let no : ⊥ = omega (arith, h) in no)
past_none (suc n) (s ∷ ss) h = past_none n ss (omega (arith, h))

put_some : (n : ℕ) (t : Socket) (sockets : List (Option Socket)) (s : Socket) → client_at sockets n ≡ Some s
    → set (places_of sockets) n (Some (place_of t)) ≡ places_of (at_client n (λ _. t) sockets)
put_some n t [] s h = refl
put_some zero t (None ∷ ss) s h = absurd (not_Some-None s h)
put_some zero t (Some r ∷ ss) s h = refl
put_some (suc n) t (r ∷ ss) s h = ap (λ z. option_map place_of r ∷ z) (put_some n t ss s h)

put_same : (n : ℕ) (sockets : List (Option Socket)) → set (places_of sockets) n (option_map place_of (client_at sockets n)) ≡ places_of sockets
put_same n [] = refl
put_same zero (s ∷ ss) = refl
put_same (suc n) (s ∷ ss) = ap (λ z. option_map place_of s ∷ z) (put_same n ss)

pub put_there : (n : ℕ) (o : Option Socket) (sockets : List (Option Socket)) → set (places_of sockets) n (option_map place_of o) ≡ places_of (set sockets n o)
put_there n o [] = refl
put_there zero o (s ∷ ss) = refl
put_there (suc n) o (s ∷ ss) = ap (λ z. option_map place_of s ∷ z) (put_there n o ss)

pub places_of-replicate : (n : ℕ) → replicate n None ≡ places_of (replicate n None)
places_of-replicate zero = refl
places_of-replicate (suc n) = ap (λ z. None ∷ z) (places_of-replicate n)

pub is_free-places_of : (n : ℕ) (sockets : List (Option Socket)) → is_free n (places_of sockets) ≡ is_free n sockets
is_free-places_of n [] = refl
is_free-places_of zero (None ∷ ss) = refl
is_free-places_of zero (Some s ∷ ss) = refl
is_free-places_of (suc n) (s ∷ ss) = is_free-places_of n ss

pub client_at-places_of : (n : ℕ) (sockets : List (Option Socket)) → client_at (places_of sockets) n ≡ option_map place_of (client_at sockets n)
client_at-places_of n [] = refl
client_at-places_of zero (s ∷ ss) = refl
client_at-places_of (suc n) (s ∷ ss) = client_at-places_of n ss

-- ---- one socket

mapped : (f : Socket → Socket) → Forgets f → SameEffects f → (o : Option Socket) → option_map (with_peer f) (option_map place_of o) ≡ option_map place_of
    (option_map f o)
mapped f k e None = refl
mapped f k e (Some s) = λ i. Some (record { peer = k s i; presented = has_presented-SameEffects f e s i })

mapped_at : (f : Socket → Socket) → Forgets f → SameEffects f → (m : ℕ) (sockets : List (Option Socket))
    → at_client m (with_peer f) (places_of sockets) ≡ places_of (at_client m f sockets)
mapped_at f k e m [] = refl
mapped_at f k e zero (s ∷ ss) = ap (λ z. z ∷ places_of ss) (mapped f k e s)
mapped_at f k e (suc m) (s ∷ ss) = ap (λ z. option_map place_of s ∷ z) (mapped_at f k e m ss)

lives_at : (m : ℕ) (f : Socket → Socket) (sockets : List (Option Socket)) → ((s : Socket) → client_at sockets m ≡ Some s → IsLived (f s))
    → ((n : ℕ) (s : Socket) → client_at sockets n ≡ Some s → IsLived s)
    → (n : ℕ) (s : Socket) → client_at (at_client m f sockets) n ≡ Some s → IsLived s
lives_at m f sockets this all = at_each_number (λ n. (s : Socket) → client_at (at_client m f sockets) n ≡ Some s → IsLived s) m
    (λ s h. by (client_at sockets m) refl s (sym (client_at-at_client m f sockets) ∙ h))
    (λ n ne s h. all n s (sym (client_at-at_other_client m n f sockets ne) ∙ h))
  where
    by : (o : Option Socket) → client_at sockets m ≡ o → (s : Socket) → option_map f o ≡ Some s → IsLived s
    by None e s h = absurd (not_Some-None s h)
    by (Some r) e s h = subst IsLived (same-Some (f r) s h) (this r e)

behind_step : (f : Socket → Socket) → Forgets f → SameEffects f → ((s : Socket) → IsLived s → IsLived (f s))
    → (d : Front) (m : ℕ) (x : Gateway) (slots : List (Option Place)) → IsBehind d x slots
    → IsBehind (at_socket m f d) x (at_client m (with_peer f) slots)
behind_step f k e l d m x slots b = record {
  alive = b.alive;
  gate = b.gate;
  places = ap (at_client m (with_peer f)) b.places ∙ mapped_at f k e m d.sockets;
  lives = lives_at m f d.sockets (λ s h. l s (b.lives m s h)) b.lives;
}

pub IsBehind-took : (bytes : List ℕ) (d : Front) (m : ℕ) (x : Gateway) (slots : List (Option Place)) → IsBehind d x slots
    → IsBehind (at_socket m (took bytes) d) x (at_client m (with_peer (took bytes)) slots)
IsBehind-took bytes = behind_step (took bytes) (λ s. refl) (λ s. refl) (λ s l. (l.0, l.1, life.takes l.0 l.1 s bytes l.2))

pub IsBehind-closed : (code : ℕ) (words : List ℕ) (d : Front) (m : ℕ) (x : Gateway) (slots : List (Option Place)) → IsBehind d x slots
    → IsBehind (at_socket m (closed code words) d) x (at_client m (with_peer (closed code words)) slots)
IsBehind-closed code words = behind_step (closed code words) (Forgets-closed code words) (SameEffects-closed code words)
    (λ s l. (l.0, l.1, life.closes l.0 l.1 s code words l.2))

pub IsBehind-passing : (n : ℕ) (d : Front) (m : ℕ) (x : Gateway) (slots : List (Option Place)) → IsBehind d x slots → IsBehind (at_socket m (passing n) d) x
    (at_client m (with_peer (passing n)) slots)
IsBehind-passing n = behind_step (passing n) (Forgets-passing n) (SameEffects-passing n) (λ s l. (l.0, l.1, life.sends l.0 l.1 s n l.2))

pub IsBehind-set : (o : Option Socket) → AreLived o → (d : Front) (m : ℕ) (g : Gate) (x : Gateway) (slots : List (Option Place)) → IsBehind d x slots
    → (y : Gateway) → IsGate g y → g.dead ≡ false
    → IsBehind (record { gate = g; sockets = set d.sockets m o }) y (set slots m (option_map place_of o))
IsBehind-set o l d m g x slots b y is a = record {
  alive = a;
  gate = is;
  places = ap (λ z. set z m (option_map place_of o)) b.places ∙ put_there m o d.sockets;
  lives = at_each_number (λ n. (s : Socket) → client_at (set d.sockets m o) n ≡ Some s → IsLived s) m (own o l d.sockets m)
      (λ n ne s h. b.lives n s (sym (client_at-set_other m n o d.sockets ne) ∙ h));
}
  where
    own : (o : Option Socket) → AreLived o → (sockets : List (Option Socket)) (m : ℕ) (s : Socket) → client_at (set sockets m o) m ≡ Some s → IsLived s
    own o l [] m s h = absurd (not_Some-None s h)
    own None l (r ∷ rs) zero s h = absurd (not_Some-None s h)
    own (Some t) l (r ∷ rs) zero s h = subst IsLived (same-Some t s h) l
    own o l (r ∷ rs) (suc m) s h = own o l rs m s h

-- ---- a socket and its client

behind_both : (d : Front) (m : ℕ) (s : Socket) (h : Gate) (t : Socket) (v x : Gateway) (slots : List (Option Place)) → IsBehind d v slots
    → socket_at d m ≡ Some s → h.dead ≡ false → IsGate h x → IsLived t
    → IsBehind (with_both m h t d) x (set slots m (Some (place_of t)))
behind_both d m s h t v x slots b e a is l = record {
  alive = a;
  gate = is;
  places = ap (λ z. set z m (Some (place_of t))) b.places ∙ put_some m t d.sockets s e;
  lives = lives_at m (λ _. t) d.sockets (λ r _. l) b.lives;
}

behind_same : (d : Front) (m : ℕ) (v x : Gateway) (slots : List (Option Place)) (y : Option Place) → IsBehind d v slots → socket_at d m ≡ None → IsGate d.gate x
    → y ≡ None → IsBehind d x (set slots m y)
behind_same d m v x slots y b e is none = record {
  alive = b.alive;
  gate = is;
  places = (λ i. set (b.places i) m ((none ∙ ap (option_map place_of) (sym e)) i)) ∙ put_same m d.sockets;
  lives = b.lives;
}

lived_slot : (d : Front) (m : ℕ) (x : Gateway) (slots : List (Option Place)) → IsBehind d x slots → AreLived (socket_at d m)
lived_slot d m x slots b = by (socket_at d m) refl
  where
    by : (o : Option Socket) → socket_at d m ≡ o → AreLived o
    by None e = tt
    by (Some s) e = b.lives m s e

pub IsHeardAt-IsHearing : (g : Gate) (m : ℕ) (o : Option Socket) (hearing : Hearing) (v x : Gateway) (p q : Place) → Some p ≡ option_map place_of o → IsGate g v
    → g.dead ≡ false → AreLived o
    → ((g : Gate) (s : Socket) → IsHearing g m s v p → IsHeardOut g m s hearing x q) → IsHeardAt g m o hearing x (Some q)
IsHeardAt-IsHearing g m None hearing v x p q e is a l f = absurd (not_Some-None p (sym e))
IsHeardAt-IsHearing g m (Some s) hearing v x p q e is a l f = (q, refl, f g s (IsHearing-start g m s v p is a (same-Some p (place_of s) e) l))

pub IsHeardBehind-past : (d : Front) (m : ℕ) (x : Gateway) (slots : List (Option Place)) → IsBehind d x slots → length slots ≤ m
    → IsHeardBehind d m Over x slots
IsHeardBehind-past d m x slots b h =
    let none : socket_at d m ≡ None = past_none m d.sockets (subst (λ z. length z ≤ m) b.places h) in
    record { now = d; heard = subst (λ o. IsHeardBy d m o Over d) (sym none) (refl, refl); stands = b }

pub IsHeardBehind-IsHeardAt : (d : Front) (m : ℕ) (hearing : Hearing) (v x : Gateway) (slots : List (Option Place)) (slot y : Option Place) → IsBehind d v slots
    → m < length slots → slot ≡ get_or slots m slot
    → ((g : Gate) (o : Option Socket) → IsGate g v → g.dead ≡ false → slot ≡ option_map place_of o → AreLived o → IsHeardAt g m o hearing x y)
    → IsHeardBehind d m hearing x (set slots m y)
IsHeardBehind-IsHeardAt d m hearing v x slots slot y b h e f =
    by (socket_at d m) refl (f d.gate (socket_at d m) b.gate b.alive
    (slot_of m d.sockets slot (subst (λ z. m < length z) b.places h) (subst (λ z. slot ≡ get_or z m slot) b.places e)) (lived_slot d m v slots b))
  where
    by : (o : Option Socket) → socket_at d m ≡ o → IsHeardAt d.gate m o hearing x y → IsHeardBehind d m hearing x (set slots m y)
    by None k r = record { now = d; heard = subst (λ o. IsHeardBy d m o hearing d) (sym k) (r.2, refl); stands = behind_same d m v x slots y b k r.0 r.1 }
    by (Some s) k r =
        let w = r.2.heard in
        record {
          now = with_both m w.now w.socket d;
          heard = subst (λ o. IsHeardBy d m o hearing (with_both m w.now w.socket d)) (sym k) (w.now, w.socket, w.heard, r.2.left, refl);
          stands = subst (λ z. IsBehind (with_both m w.now w.socket d) x (set slots m z)) (sym (r.1 ∙ ap Some w.place))
              (behind_both d m s w.now w.socket v x slots b k w.alive w.gate w.lived);
        }

pub IsBehind-offered_past : (d : Front) (m : ℕ) (x : Gateway) (slots : List (Option Place)) → IsBehind d x slots → length slots ≤ m
    → IsBehind (offered m d) x slots
IsBehind-offered_past d m x slots b h =
    subst (λ o. IsBehind (if_some o d (λ s. with_both m (offered_to m d.gate s).0 (offered_to m d.gate s).1 d)) x slots)
    (sym (past_none m d.sockets (subst (λ z. length z ≤ m) b.places h))) b

pub IsBehind-offered : LeavesMarks → (d : Front) (m : ℕ) (v x : Gateway) (slots : List (Option Place)) (slot y : Option Place) → IsBehind d v slots
    → m < length slots
    → slot ≡ get_or slots m slot
    → ((g : Gate) (o : Option Socket) → IsGate g v → g.dead ≡ false → slot ≡ option_map place_of o → AreLived o → IsOfferedAt g m o x y)
    → IsBehind (offered m d) x (set slots m y)
IsBehind-offered k d m v x slots slot y b h e f =
    by (socket_at d m) refl (f d.gate (socket_at d m) b.gate b.alive
    (slot_of m d.sockets slot (subst (λ z. m < length z) b.places h) (subst (λ z. slot ≡ get_or z m slot) b.places e)) (lived_slot d m v slots b))
  where
    by : (o : Option Socket) → socket_at d m ≡ o → IsOfferedAt d.gate m o x y
        → IsBehind (if_some o d (λ s. with_both m (offered_to m d.gate s).0 (offered_to m d.gate s).1 d)) x (set slots m y)
    by None q r = behind_same d m v x slots y b q r.0 r.1
    by (Some s) q r =
        subst (λ z. IsBehind (with_both m (offered_to m d.gate s).0 (offered_to m d.gate s).1 d) x (set slots m z)) (sym r.1)
        (behind_both d m s (offered_to m d.gate s).0 (offered_to m d.gate s).1 v x slots b q (dead-offered_to k d.gate m s b.alive) r.0
        (IsLived-offered_to d.gate m s (b.lives m s q)))

pub dismissed_same : (d : Front) (m : ℕ) (x : Gateway) (slots : List (Option Place)) → is_dropped d.gate m ≡ false → IsBehind d x slots
    → IsBehind (dismissed m d) x slots
dismissed_same d m x slots e b = subst (λ z. IsBehind (cond z (at_socket m turned_away d) d) x slots) (sym e) b

pub IsBehind-dismissed : (d : Front) (m : ℕ) (x : Gateway) (slots : List (Option Place)) → is_dropped d.gate m ≡ true
    → IsBehind (at_socket m turned_away d) x slots → IsBehind (dismissed m d) x slots
IsBehind-dismissed d m x slots e b = subst (λ z. IsBehind (cond z (at_socket m turned_away d) d) x slots) (sym e) b

-- ---- all numbers

each_more : (f : ℕ → Front → Front) (ns : List ℕ) (n : ℕ) (d : Front) → at_each f (ns ++ n ∷ []) d ≡ f n (at_each f ns d)
each_more f [] n d = refl
each_more f (m ∷ ns) n d = each_more f ns n (f m d)

-- one number more of a list
pub IsBehind-at_each_next : (f : ℕ → Front → Front) (ns : List ℕ) (i : ℕ) (d : Front) (x : Gateway) (slots : List (Option Place)) → i < length ns
    → IsBehind (f (get_or ns i 0) (at_each f (take i ns) d)) x slots
    → IsBehind (at_each f (take (i + 1) ns) d) x slots
IsBehind-at_each_next f ns i d x slots lt b = subst (λ z. IsBehind z x slots)
    (sym (ap (λ z. at_each f z d) (take_more ns i 0 lt) ∙ each_more f (take i ns) (get_or ns i 0) d)) b

pub IsBehind-at_each : (f : ℕ → Front → Front) (ns : List ℕ) (i : ℕ) (d : Front) (x : Gateway) (slots : List (Option Place)) → length ns ≤ i
    → IsBehind (at_each f (take i ns) d) x slots
    → IsBehind (at_each f ns d) x slots
IsBehind-at_each f ns i d x slots past b = subst (λ z. IsBehind (at_each f z d) x slots) (take_all i ns past) b

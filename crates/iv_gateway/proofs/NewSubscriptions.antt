-- What a client subscribes to, as the code opens it.
use Rattle.std.proofs.Common.{◌≡◌, ◌∙◌, ℕ, ◌+◌, Bool, true, false, not, cond, List, [], ◌∷◌, length, Option, Some, None, option_map, refl, ap, sym, subst}
use Rattle.std.specs.Prelude.{◌==◌, ◌&&◌, bytes_eq, find, nat_lt}
use Rattle.std.proofs.lemmas.Slice.Eq.{bytes_eq-Decides}
use Rattle.serde_json.specs.Data.{Data}
use Rattle.iv_rows.specs.Columns.{Column}
use Rattle.iv_rows.specs.Options.{if_some}
use Rattle.iv_access.specs.Rights.{Name}
use Rattle.iv_machine.specs.Act.{Line, Refusal, Reply, done, refused, subscribe, subscribed, too_many}
use Rattle.iv_machine.specs.Machine.{outcome, step}
use Rattle.iv_machine.specs.Refusing.{refusal}
use Rattle.iv_machine.specs.State.{State}
use Rattle.iv_message.specs.Told.{opened, replied}
use Rattle.iv_clients.specs.Bounds.{most_subs}
use Rattle.iv_clients.specs.Clients.{Client, at_client, client_at, following, moved, told_one}
use Rattle.iv_clients.specs.Feeds.{Feed, feed_for, feed_of, is_reading, room_for}
use Rattle.iv_clients.specs.Kept.{Kept, Places, kept, kept_slots}
use Rattle.iv_gate.specs.Gate.{Gate, begun_for, columns_in, feed_begun, in_session, joined, joined_by, joins, next_own, reads, reads_first, reply_to, seated}
use Rattle.iv_gate.specs.Gate.{shut, subscribes, tells}
use Rattle.iv_gateway.specs.Reading.{Double, doubled, own_next, reads_further}
use Rattle.iv_gateway.specs.Views.{IsAlive, IsRun, opening_of}
use Rattle.iv_gateway.specs.declared.gateway.Gateway.{Gateway}
use Rattle.iv_gateway.specs.declared.subscribing.Opening.TheVariants as opening
use Rattle.iv_notices.proofs.ClientChanges.{client_at-kept_slots}
use Rattle.iv_gateway.proofs.UnfollowedFeeds.{same-Some}

-- ---- its next number

pub own_next-next_own : (g : Gate) (m : ℕ) (places : Places) → places ≡ kept_slots g.clients → own_next places m ≡ next_own g m
own_next-next_own g m places b =
    ap (λ z. own_next z m) b ∙ (ap (λ o. if_some o 0 (λ (k : Kept). k.given + 1)) (client_at-kept_slots g.clients m) ∙ by (client_at g.clients m))
  where
    by : (o : Option Client) → if_some (option_map kept o) 0 (λ (k : Kept). k.given + 1) ≡ if_some o 0 (λ (c : Client). c.given + 1)
    by None = refl
    by (Some c) = refl

-- ---- what is opened

-- a subscribe leaves the relations
catalog_by : (s : State) (n : ℕ) (rel : Name) (o : Option Refusal) → (outcome s (in_session n (subscribe rel)) o).state.frame.catalog ≡ s.frame.catalog
catalog_by s n rel None = refl
catalog_by s n rel (Some r) = refl

columns_left : (s : State) (n : ℕ) (rel : Name) → columns_in (step s (in_session n (subscribe rel))).state rel ≡ columns_in s rel
columns_left s n rel = ap (λ catalog. columns_in (record s { frame = record s.frame { catalog = catalog } }) rel)
    (catalog_by s n rel (refusal s n (subscribe rel)))

-- the machine has answered, and the feed is begun: so it is begun, and the machine has answered
pub IsRun-feed_begun : (g : Gate) (m : ℕ) (id : Option Data) (n : ℕ) (role rel : Name) (r : Reply) (ls : List Line) (x : Gateway)
    → ls ≡ (step g.machine (in_session n (subscribe rel))).lines
    → IsAlive (feed_begun (record g { machine = (step g.machine (in_session n (subscribe rel))).state }) m id n role rel r) x
    → IsRun (feed_begun g m id n role rel r) (in_session n (subscribe rel)) ls x
IsRun-feed_begun g m id n role rel done ls x e a = record { lines = e; gate = a }
IsRun-feed_begun g m id n role rel (refused r) ls x e a = record { lines = e; gate = a }
IsRun-feed_begun g m id n role rel (subscribed t) ls x e a = record {
  lines = e;
  gate = subst
      (λ (columns : List Column). IsAlive (record g {
        machine = (step g.machine (in_session n (subscribe rel))).state;
        clients = at_client m (following t) (at_client m (told_one g.entries (opened id (next_own g m) columns)) g.clients);
        feeds = record { number = t; session = n; role = role; rel = rel } ∷ g.feeds;
      }) x)
      (columns_left g.machine n rel) a;
}

pub IsAlive-feed_begun : (g : Gate) (m : ℕ) (id : Option Data) (n : ℕ) (role rel : Name) (t : ℕ) (r : Reply) (x : Gateway) → opening_of r ≡ opening.Subscribed t
    → IsAlive (feed_begun g m id n role rel (subscribed t)) x → IsAlive (feed_begun g m id n role rel r) x
IsAlive-feed_begun g m id n role rel t done x e a = cc
IsAlive-feed_begun g m id n role rel t (refused r) x e a = cc
IsAlive-feed_begun g m id n role rel t (subscribed k) x e a = let same : k ≡ t = cc in
    subst (λ z. IsAlive (feed_begun g m id n role rel (subscribed z)) x) (sym same) a

pub begins_done : (g : Gate) (m : ℕ) (id : Option Data) (n : ℕ) (role rel : Name) (r : Reply) (x : Gateway) → opening_of r ≡ opening.Done
    → IsAlive (tells g m (replied id r)) x → IsAlive (feed_begun g m id n role rel r) x
begins_done g m id n role rel done x e a = a
begins_done g m id n role rel (refused r) x e a = a
begins_done g m id n role rel (subscribed k) x e a = cc

pub begins_none : (g : Gate) (m : ℕ) (id : Option Data) (n : ℕ) (role rel : Name) (r : Reply) (x : Gateway) → opening_of r ≡ opening.Refused
    → IsAlive (tells g m (replied id r)) x → IsAlive (feed_begun g m id n role rel r) x
begins_none g m id n role rel done x e a = a
begins_none g m id n role rel (refused r) x e a = a
begins_none g m id n role rel (subscribed k) x e a = cc

-- ---- two feeds that show the same

joined_by_pair : (g : Gate) (m : ℕ) (t k : Feed) (x : Gateway) (b : Bool) (d : Option Double) → cond b (Some (t.session, t.number, k.number)) None ≡ d
    → (d ≡ None → IsAlive g x)
    → ((n i j : ℕ) (f : Feed) → d ≡ Some (n, i, j) → f.session ≡ n → f.number ≡ i
    → IsAlive (shut (record g { clients = at_client m (moved i j) g.clients }) f) x)
    → IsAlive (cond b (shut (record g { clients = at_client m (moved t.number k.number) g.clients }) t) g) x
joined_by_pair g m t k x true d e none some = some t.session t.number k.number t (sym e) refl refl
joined_by_pair g m t k x false d e none some = none (sym e)

joins_two : (g : Gate) (m : ℕ) (o p : Option Feed) (x : Gateway) (d : Option Double) → doubled o p ≡ d
    → (d ≡ None → IsAlive g x)
    → ((n i j : ℕ) (f : Feed) → d ≡ Some (n, i, j) → f.session ≡ n → f.number ≡ i
    → IsAlive (shut (record g { clients = at_client m (moved i j) g.clients }) f) x)
    → IsAlive (joined g m o p) x
joins_two g m None p x d e none some = none (sym e)
joins_two g m (Some t) None x d e none some = none (sym e)
joins_two g m (Some t) (Some k) x d e none some = joined_by_pair g m t k x (is_reading t.role t.rel k && not (t.number == k.number)) d e none some

pub IsAlive-joined_none : (g : Gate) (m : ℕ) (o p : Option Feed) (x : Gateway) → doubled o p ≡ None → IsAlive g x → IsAlive (joined g m o p) x
IsAlive-joined_none g m o p x e a = joins_two g m o p x None e (λ z. a) (λ n i j f z s q. cc)

pub IsAlive-joined : (g : Gate) (m : ℕ) (o p : Option Feed) (x : Gateway) (n i j : ℕ) → doubled o p ≡ Some (n, i, j)
    → ((f : Feed) → f.session ≡ n → f.number ≡ i → IsAlive (shut (record g { clients = at_client m (moved i j) g.clients }) f) x) → IsAlive (joined g m o p) x
IsAlive-joined g m o p x n i j e a = joins_two g m o p x (Some (n, i, j)) e (λ z. cc) some
  where
    some : (n' i' j' : ℕ) (f : Feed) → ◌≡◌ {A = Option Double} (Some (n, i, j)) (Some (n', i', j')) → f.session ≡ n' → f.number ≡ i'
        → IsAlive (shut (record g { clients = at_client m (moved i' j') g.clients }) f) x
    some n' i' j' f z s q =
        let same : ◌≡◌ {A = Double} (n, i, j) (n', i', j') = same-Some {X = Double} (n, i, j) (n', i', j') z in
        subst (λ (d : Double). IsAlive (shut (record g { clients = at_client m (moved d.1 d.2) g.clients }) f) x) same
        (a f (s ∙ sym (ap (λ (d : Double). d.0) same)) (q ∙ sym (ap (λ (d : Double). d.1) same)))

pub IsAlive-joined_by_Subscribed : (g : Gate) (m k t : ℕ) (r : Reply) (x : Gateway) → opening.Subscribed t ≡ opening_of r
    → IsAlive (joined g m (feed_of g.feeds t) (feed_of g.feeds k)) x → IsAlive (joined_by g m k r) x
IsAlive-joined_by_Subscribed g m k t done x e a = cc
IsAlive-joined_by_Subscribed g m k t (refused r) x e a = cc
IsAlive-joined_by_Subscribed g m k t (subscribed j) x e a =
    let same : t ≡ j = cc in subst (λ z. IsAlive (joined g m (feed_of g.feeds z) (feed_of g.feeds k)) x) same a

pub IsAlive-joined_by_Done : (g : Gate) (m k : ℕ) (r : Reply) (x : Gateway) → opening.Done ≡ opening_of r → IsAlive g x → IsAlive (joined_by g m k r) x
IsAlive-joined_by_Done g m k done x e a = a
IsAlive-joined_by_Done g m k (refused r) x e a = a
IsAlive-joined_by_Done g m k (subscribed j) x e a = cc

pub IsAlive-joined_by_Refused : (g : Gate) (m k : ℕ) (r : Reply) (x : Gateway) → opening.Refused ≡ opening_of r → IsAlive g x → IsAlive (joined_by g m k r) x
IsAlive-joined_by_Refused g m k done x e a = a
IsAlive-joined_by_Refused g m k (refused r) x e a = a
IsAlive-joined_by_Refused g m k (subscribed j) x e a = cc

-- ---- where it is opened

pub IsAlive-reads_first : (g : Gate) (m : ℕ) (id : Option Data) (role rel : Name) (n : ℕ) (x : Gateway) → room_for g.seats g.feeds role ≡ Some n
    → IsAlive (subscribes g m id n role rel) x
    → IsAlive (reads_first g m id role rel) x
IsAlive-reads_first g m id role rel n x e a = subst (λ o. IsAlive (if_some o (reads_further g m id role rel) (λ k. subscribes g m id k role rel)) x) (sym e) a

pub IsAlive-reads_first_no_room : (g : Gate) (m : ℕ) (id : Option Data) (role rel : Name) (x : Gateway) → room_for g.seats g.feeds role ≡ None
    → IsAlive (reads_further g m id role rel) x
    → IsAlive (reads_first g m id role rel) x
IsAlive-reads_first_no_room g m id role rel x e a =
    subst (λ o. IsAlive (if_some o (reads_further g m id role rel) (λ k. subscribes g m id k role rel)) x) (sym e) a

pub IsAlive-reads_further : (g : Gate) (m : ℕ) (id : Option Data) (role rel : Name) (n : ℕ) (x : Gateway) → begun_for g role ≡ Some n
    → IsAlive (subscribes (seated g n role) m id n role rel) x
    → IsAlive (reads_further g m id role rel) x
IsAlive-reads_further g m id role rel n x e a =
    subst (λ o. IsAlive (if_some o (tells g m (replied id (refused too_many))) (λ k. subscribes (seated g k role) m id k role rel)) x) (sym e) a

pub IsAlive-reads_further_unseated : (g : Gate) (m : ℕ) (id : Option Data) (role rel : Name) (x : Gateway) → begun_for g role ≡ None
    → IsAlive (tells g m (replied id (refused too_many))) x
    → IsAlive (reads_further g m id role rel) x
IsAlive-reads_further_unseated g m id role rel x e a =
    subst (λ o. IsAlive (if_some o (tells g m (replied id (refused too_many))) (λ k. subscribes (seated g k role) m id k role rel)) x) (sym e) a

-- ---- what a client asks

-- of a client of the role who has as many numbers open
abbrev pub reading : Gate → ℕ → Option Data → ℕ → Name → Name → Gate
reading g m id subs role rel =
    cond (nat_lt subs most_subs) (if_some (feed_for g.feeds role rel) (reads_first g m id role rel) (joins g m id)) (tells g m (replied id (refused too_many)))

reads_by : (g : Gate) (m : ℕ) (c : Client) (id : Option Data) (subs : ℕ) (role rel : Name) (x : Gateway) → c.role ≡ role → length c.subs ≡ subs
    → IsAlive (reading g m id subs role rel) x
    → IsAlive (reads g m c id rel) x
reads_by g m c id subs role rel x e l a = subst (λ h. IsAlive h x) (λ i. reading g m id (sym l i) (sym e i) rel) a

pub IsAlive-reads_full : (g : Gate) (m : ℕ) (c : Client) (id : Option Data) (subs : ℕ) (role rel : Name) (x : Gateway) → c.role ≡ role → length c.subs ≡ subs
    → nat_lt subs most_subs ≡ false
    → IsAlive (tells g m (replied id (refused too_many))) x → IsAlive (reads g m c id rel) x
IsAlive-reads_full g m c id subs role rel x e l h a =
    reads_by g m c id subs role rel x e l
    (subst (λ b. IsAlive (cond b (if_some (feed_for g.feeds role rel) (reads_first g m id role rel) (joins g m id)) (tells g m (replied id (refused too_many))))
    x) (sym h) a)

reads_placed : (g : Gate) (m : ℕ) (c : Client) (id : Option Data) (subs : ℕ) (role rel : Name) (x : Gateway) → c.role ≡ role → length c.subs ≡ subs
    → nat_lt subs most_subs ≡ true
    → IsAlive (if_some (feed_for g.feeds role rel) (reads_first g m id role rel) (joins g m id)) x → IsAlive (reads g m c id rel) x
reads_placed g m c id subs role rel x e l h a =
    reads_by g m c id subs role rel x e l
    (subst (λ b. IsAlive (cond b (if_some (feed_for g.feeds role rel) (reads_first g m id role rel) (joins g m id)) (tells g m (replied id (refused too_many))))
    x) (sym h) a)

abbrev pub place : Feed → ℕ × ℕ
place f = (f.session, f.number)

none_there : (o : Option Feed) → option_map {U = ℕ × ℕ} place o ≡ None → o ≡ None
none_there None h = refl
none_there (Some f) h = cc

pub IsAlive-reads_new : (g : Gate) (m : ℕ) (c : Client) (id : Option Data) (subs : ℕ) (role rel : Name) (x : Gateway) → c.role ≡ role → length c.subs ≡ subs
    → nat_lt subs most_subs ≡ true
    → option_map {U = ℕ × ℕ} place (feed_for g.feeds role rel) ≡ None → IsAlive (reads_first g m id role rel) x → IsAlive (reads g m c id rel) x
IsAlive-reads_new g m c id subs role rel x e l h f a =
    reads_placed g m c id subs role rel x e l h
    (subst (λ o. IsAlive (if_some o (reads_first g m id role rel) (joins g m id)) x) (sym (none_there (feed_for g.feeds role rel) f)) a)

passes_found : {X : Type 0} (p : X → Bool) (xs : List X) (x : X) → find p xs ≡ Some x → p x ≡ true
passes_found p [] x h = cc
passes_found p (y ∷ ys) x h = by (p y) refl h (passes_found p ys x)
  where
    by : (b : Bool) → p y ≡ b → cond b (Some y) (find p ys) ≡ Some x → (find p ys ≡ Some x → p x ≡ true) → p x ≡ true
    by true e f more = ap p (sym (same-Some y x f)) ∙ e
    by false e f more = more f

and_first : (b c : Bool) → (b && c) ≡ true → b ≡ true
and_first true c h = refl
and_first false c h = cc

and_second : (b c : Bool) → (b && c) ≡ true → c ≡ true
and_second true c h = h
and_second false c h = cc

joins_feed : (g : Gate) (m : ℕ) (id : Option Data) (role rel : Name) (n k : ℕ) (x : Gateway) (f : Feed) → is_reading role rel f ≡ true → f.session ≡ n
    → f.number ≡ k
    → IsAlive (joined_by (subscribes g m id n role rel) m k (reply_to g (in_session n (subscribe rel)))) x → IsAlive (joins g m id f) x
joins_feed g m id role rel n k x f h s q a =
    let ro : f.role ≡ role = (bytes_eq-Decides f.role role).0 (and_first (bytes_eq f.role role) (bytes_eq f.rel rel) h) in
    let re : f.rel ≡ rel = (bytes_eq-Decides f.rel rel).0 (and_second (bytes_eq f.role role) (bytes_eq f.rel rel) h) in
    subst (λ y. IsAlive y x) (λ i. joined_by (subscribes g m id (sym s i) (sym ro i) (sym re i)) m (sym q i)
    (reply_to g (in_session (sym s i) (subscribe (sym re i))))) a

joins_found : (g : Gate) (m : ℕ) (id : Option Data) (role rel : Name) (n k : ℕ) (x : Gateway) (o : Option Feed) → feed_for g.feeds role rel ≡ o
    → option_map {U = ℕ × ℕ} place o ≡ Some (n, k)
    → IsAlive (joined_by (subscribes g m id n role rel) m k (reply_to g (in_session n (subscribe rel)))) x
    → IsAlive (if_some o (reads_first g m id role rel) (joins g m id)) x
joins_found g m id role rel n k x None e h a = cc
joins_found g m id role rel n k x (Some f) e h a =
    let same : place f ≡ (n, k) = same-Some (place f) (n, k) h in
    joins_feed g m id role rel n k x f (passes_found (is_reading role rel) g.feeds f e) (ap (λ (p : ℕ × ℕ). p.0) same) (ap (λ (p : ℕ × ℕ). p.1) same) a

pub IsAlive-reads_shared : (g : Gate) (m : ℕ) (c : Client) (id : Option Data) (subs : ℕ) (role rel : Name) (n k : ℕ) (x : Gateway) → c.role ≡ role
    → length c.subs ≡ subs → nat_lt subs most_subs ≡ true
    → option_map {U = ℕ × ℕ} place (feed_for g.feeds role rel) ≡ Some (n, k)
    → IsAlive (joined_by (subscribes g m id n role rel) m k (reply_to g (in_session n (subscribe rel)))) x
    → IsAlive (reads g m c id rel) x
IsAlive-reads_shared g m c id subs role rel n k x e l h f a =
    reads_placed g m c id subs role rel x e l h (joins_found g m id role rel n k x (feed_for g.feeds role rel) refl f a)

-- Whatever happens, each client's token opens its role, its role has a session, and who may come in does.
use Rattle.std.proofs.Common.{◌≡◌, ◌⊎◌, inl, inr, ℕ, ◌<◌, Bool, true, false, cond, ◌||◌, List, [], ◌∷◌, ◌++◌, length, Option, Some, None, is_some, refl, ap, ◌∙◌, sym, subst, arith}
use Rattle.std.specs.Prelude.{◌==◌, ◌&&◌, bytes_eq, option_and_then, option_map}
use Rattle.std.proofs.lemmas.Bool.{false≢true, or_right}
use Rattle.sha2.specs.Sha256.{sha256}
use Rattle.iv_rows.specs.Names.{is_name}
use Rattle.iv_rows.specs.Options.{if_some}
use Rattle.iv_access.specs.Privileges.{role_of}
use Rattle.iv_access.specs.Rights.{Name}
use Rattle.iv_clients.specs.Bounds.{most_seats}
use Rattle.iv_clients.specs.Clients.{Client, client_at, is_free, may_say, opens, saying}
use Rattle.iv_clients.specs.Feeds.{seat_of}
use Rattle.iv_clients.specs.Tokens.{role_opened, token_of, Token}
use Rattle.iv_clients.proofs.Slots.{same-Some, not_None-Some}
use Rattle.iv_gate.specs.Events.{Event, presented, message, known, handed, next, arrived}
use Rattle.iv_gate.specs.Gate.{Gate, begun_for, has_session, token_for}
use Rattle.iv_gate.specs.Replies.{IsClient}
use Rattle.iv_gate.specs.Runs.{Runs, begins, goes_on, begins_again}
use Rattle.iv_gate.specs.Touched.{ActsByToken, LetsIn, drops}
use Rattle.iv_gate.proofs.MachineReplies.{le-begun_for_none}
use Rattle.iv_gate.proofs.SameFeeds.{same-bytes_eq, and-both_true}
use Rattle.iv_gate.proofs.SessionRoom.{IsKept}
use Rattle.iv_gate.proofs.SoundRuns.{Starts, not_client_at-Restores, IsKept-Runs, IsSoundGate-Runs}
use Rattle.iv_gate.proofs.SeatsAndFeeds.{has_role-client_at}
use Rattle.iv_gate.proofs.EventSigns.{Card, Marks, card, marks}
use Rattle.iv_gate.proofs.SoundCommands.{Adds, IsSoundGate, Sounds}
use Rattle.iv_gate.proofs.CommandLines.{true-not_false}
use Rattle.iv_gate.proofs.NumberSums.{or-both_false}
use Rattle.iv_gate.proofs.EventMarks.{card_behind, is_gone, marks_behind, next-alive, came_as, client_at-came_as, marks-next, next-dead, AreTouched-next}
use Rattle.iv_gate.specs.Arriving.{fault_of}
use Rattle.iv_gate.proofs.MachineLists.{true-find}

-- ---- tokens

pub role-card_behind : (m : ℕ) (c : Client) (e : Event) → ((card_behind m c e).role ≡ c.role) × ((card_behind m c e).digest ≡ c.digest)
role-card_behind m c (message n text) = by ((n == m) && may_say c)
  where
    by : (b : Bool) → ((cond b (card (saying text c)) (card c)).role ≡ c.role) × ((cond b (card (saying text c)) (card c)).digest ≡ c.digest)
    by true = (refl, refl)
    by false = (refl, refl)
role-card_behind m c (handed n) = by (n == m) (length c.sendable == 0)
  where
    by : (b d : Bool) → ((cond b (card (cond d c (record c { sendable = []; asked = 0; handed = c.handed ++ c.sendable ∷ [] }))) (card c)).role ≡ c.role)
        × ((cond b (card (cond d c (record c { sendable = []; asked = 0; handed = c.handed ++ c.sendable ∷ [] }))) (card c)).digest ≡ c.digest)
    by true true = (refl, refl)
    by true false = (refl, refl)
    by false d = (refl, refl)
role-card_behind m c _ = (refl, refl)

opens_is : (o : Option Token) (role : Name) (user : List ℕ) → if_some o false (λ (t : Token). bytes_eq role t.role && bytes_eq user t.user) ≡ true → option_map (λ (t : Token). t.role) o ≡ Some role
opens_is None role user h = absurd (false≢true h)
opens_is (Some t) role user h = ap Some (sym (same-bytes_eq role t.role (and-both_true (bytes_eq role t.role) (bytes_eq user t.user) h).0))

still_opens : (g : Gate) (e : Event) (c : Client) → drops c e ≡ false → role_opened g.tokens c.digest ≡ Some c.role → role_opened (marks_behind g e).tokens c.digest ≡ Some c.role
still_opens g (known tokens) c d h = opens_is (token_of tokens c.digest) c.role c.user (true-not_false (opens tokens c) d)
still_opens g (arrived s) c d h = by (is_some (fault_of g s))
  where
    by : (b : Bool) → role_opened (cond b (record (marks g) { dead = true }) (marks g)).tokens c.digest ≡ Some c.role
    by true = h
    by false = h
still_opens g _ c d h = h

-- a token that is found is found by its own digest
by_digest : (tokens : List Token) (digest : List ℕ) (t : Token) → token_of tokens digest ≡ Some t → role_opened tokens t.digest ≡ Some t.role
by_digest tokens digest t h =
    let same : t.digest ≡ digest = same-bytes_eq t.digest digest (true-find (λ (x : Token). bytes_eq x.digest digest) tokens t h) in
    ap (λ d. role_opened tokens d) same ∙ ap (option_map (λ (x : Token). x.role)) h

-- the token of each client that is not to go opens its role
abbrev pub AreOpened : Gate → Type 0
AreOpened g = (m : ℕ) (c : Client) → client_at g.clients m ≡ Some c → c.dropped ≡ false → role_opened g.tokens c.digest ≡ Some c.role

module _ (g : Gate) (e : Event) (live : g.dead ≡ false) (s : AreOpened g) where
  tokens_now : (next g e).tokens ≡ (marks_behind g e).tokens
  tokens_now = ap (λ (k : Marks). k.tokens) (marks-next g e live)

  live_opened : (m : ℕ) (d : Client) → client_at (next g e).clients m ≡ Some d → d.dropped ≡ false → role_opened (next g e).tokens d.digest ≡ Some d.role
  live_opened m d h stays = by (client_at g.clients m) refl (is_gone m e) refl
    where
      by : (o : Option Client) → client_at g.clients m ≡ o → (b : Bool) → is_gone m e ≡ b → role_opened (next g e).tokens d.digest ≡ Some d.role
      by o t true n = absurd (not_None-Some d (sym h ∙ (AreTouched-next g e live).leaves m n))
      by (Some c) t false n =
          let k = (AreTouched-next g e live).stays m c t n in
          let same : d ≡ k.now = same-Some d k.now (sym h ∙ k.there) in
          let role : d.role ≡ c.role = ap (λ (x : Client). x.role) same ∙ (ap (λ (x : Card). x.role) k.card ∙ (role-card_behind m c e).0) in
          let digest : d.digest ≡ c.digest = ap (λ (x : Client). x.digest) same ∙ (ap (λ (x : Card). x.digest) k.card ∙ (role-card_behind m c e).1) in
          let parts = or-both_false c.dropped (drops c e) (sym k.dropped ∙ (ap (λ (x : Client). x.dropped) (sym same) ∙ stays)) in
          (λ i. role_opened (tokens_now i) (digest i)) ∙ (still_opens g e c parts.1 (s m c t parts.0) ∙ ap Some (sym role))
      by None t false n =
          let x = (AreTouched-next g e live).comes m d t h in
          let tokens : (next g e).tokens ≡ g.tokens = tokens_now ∙ ap (λ y. (marks_behind g y).tokens) x.event in
          (λ i. role_opened (tokens i) (ap (λ (y : Client). y.digest) x.is i)) ∙ (by_digest g.tokens (sha256 x.text) x.token x.opened ∙ ap (λ (y : Client). Some y.role) (sym x.is))

next_opened : (g : Gate) (e : Event) → AreOpened g → AreOpened (next g e)
next_opened g e s = by g.dead refl
  where
    by : (t : Bool) → g.dead ≡ t → AreOpened (next g e)
    by true t = subst AreOpened (sym (next-dead g e t)) s
    by false t = live_opened g e t s

runs_opened : (cap : ℕ) (g : Gate) → Runs cap g → AreOpened g
runs_opened cap _ (begins tokens most head journal g r) = λ m c h live. absurd (not_client_at-Restores cap tokens most head [] journal g r m c h)
runs_opened cap _ (goes_on h e w r) = next_opened h e (runs_opened cap h r)
runs_opened cap _ (begins_again h disk tokens most i r l x) = λ m c y live. absurd (not_client_at-Restores cap tokens most h.head h.sent disk i x m c y)

pub ActsByToken-Runs : Adds → Starts → Sounds → (cap : ℕ) (g : Gate) (m : ℕ) (c : Client) → Runs cap g → IsClient g m c → ActsByToken g c
ActsByToken-Runs adds starts sounds cap g m c r x =
    record { opened = runs_opened cap g r m c x.there x.stays; seat = (IsKept-Runs adds starts sounds cap g r).shared.seated c.role (has_role-client_at g.clients m c x.there) }

-- ---- who may come in

has_room_for : (g : Gate) (role : Name) → IsSoundGate g → IsKept g → is_some (role_of g.machine.frame.rights role) ≡ true → length g.seats < most_seats → is_some (begun_for g role) ≡ true
has_room_for g role b k there l = by (begun_for g role) refl
  where
    by : (o : Option ℕ) → begun_for g role ≡ o → is_some o ≡ true
    by (Some n) e = refl
    by None e = let full = le-begun_for_none g role b k there e in absurd (let no : ⊥ = omega (arith, l, full) in no)

-- who presents a token that opens a role which the machine knows comes in, where the number is free and a session is there for the role
pub record MayCome (g : Gate) (m : ℕ) (token : List ℕ) (role : Name) : Type 0 where
  pub opened : role_opened g.tokens (sha256 token) ≡ Some role
  pub name : is_name role ≡ true
  pub known : is_some (role_of g.machine.frame.rights role) ≡ true
  pub free : is_free m g.clients ≡ true
  pub session : (is_some (seat_of g.seats role) ≡ true) ⊎ (length g.seats < most_seats)

session_for : (g : Gate) (m : ℕ) (token : List ℕ) (role : Name) → IsSoundGate g → IsKept g → MayCome g m token role → has_session g role ≡ true
session_for g m token role b k a = by a.session
  where
    by : (is_some (seat_of g.seats role) ≡ true) ⊎ (length g.seats < most_seats) → has_session g role ≡ true
    by (inl e) = ap (λ b. b || is_some (begun_for g role)) e
    by (inr l) = or_right (is_some (seat_of g.seats role)) (is_some (begun_for g role)) (has_room_for g role b k a.known l)

lets_in : (g : Gate) → g.dead ≡ false → IsSoundGate g → IsKept g → (m : ℕ) (token : List ℕ) (role : Name) → MayCome g m token role
    → is_some (client_at (next g (presented m token)).clients m) ≡ true
lets_in g live b k m token role a = by (token_of g.tokens (sha256 token)) refl a.opened
  where
    by : (o : Option Token) → token_of g.tokens (sha256 token) ≡ o → option_map (λ (t : Token). t.role) o ≡ Some role → is_some (client_at (next g (presented m token)).clients m) ≡ true
    by None e f = absurd (not_None-Some role (sym f))
    by (Some t) e f =
        let same : t.role ≡ role = same-Some t.role role f in
        let name : is_name t.role ≡ true = ap is_name same ∙ a.name in
        let session : has_session g t.role ≡ true = ap (has_session g) same ∙ session_for g m token role b k a in
        let opens_it : token_for g m token ≡ Some t =
        ap (option_and_then (λ (r : Token). cond (is_name r.role && (is_free m g.clients && has_session g r.role)) (Some r) None)) e
        ∙ (λ i. cond (name i && (a.free i && session i)) (Some t) None) in
        ap (λ (x : Gate). is_some (client_at x.clients m)) (next-alive g (presented m token) live)
        ∙ (ap (λ o. is_some (client_at (if_some o g (came_as g m)).clients m)) opens_it ∙ ap is_some (client_at-came_as g m t a.free))

pub LetsIn-Runs : Adds → Starts → Sounds → (cap : ℕ) (g : Gate) → Runs cap g → g.dead ≡ false → LetsIn g
LetsIn-Runs adds starts sounds cap g r live m token role o n k f s =
    lets_in g live (IsSoundGate-Runs adds starts sounds cap g r) (IsKept-Runs adds starts sounds cap g r) m token role (record { opened = o; name = n; known = k; free = f; session = s })

-- What becomes of a request that changes what is shared: it is done, or refused, or its client is told something else.
use Rattle.std.proofs.Common.{◌≡◌, ℕ, true, List, Option, Some, None, refl}
use Rattle.serde_json.specs.Data.{Data}
use Rattle.iv_rows.specs.Options.{if_some}
use Rattle.iv_machine.specs.Act.{Refusal, refused, no_session, limit}
use Rattle.iv_message.specs.Told.{Told, answered, undecided, denied}
use Rattle.iv_clients.specs.Clients.{Client}
use Rattle.iv_clients.specs.Feeds.{seat_of}
use Rattle.iv_records.specs.Journal.{Request}
use Rattle.iv_records.specs.Names.{Claim, place_text}
use Rattle.iv_once.specs.Names.{Ask, Verdict, carry, again, another, late, foreign, ahead, over, verdict}
use Rattle.iv_gate.specs.Gate.{Gate, asked_by, by_verdict, carries, decided_elsewhere, decides, has_shape_room, names_of, number_here, place_of, replies_to, done_in, shares, tells, is_elsewhere}
use Rattle.iv_gate.proofs.ShapeTexts.{cond-either}

-- what is told of it otherwise
pub data IsAside : Told → Type 0 where
  refers : (id : Option Data) (number : ℕ) → IsAside (denied id number)
  leaves : (id : Option Data) (number : ℕ) → IsAside (undecided id number)
  repeats : (id : Option Data) (at answer : List ℕ) → IsAside (answered id true at answer)

-- what holds after each of these holds after all
pub record Chooses (P : Gate → Type 0) (g : Gate) (m : ℕ) (id : Option Data) (q : Request) : Type 0 where
  pub tells : (t : Told) → IsAside t → P (tells g m t)
  pub does : (name : Option Ask) (n : ℕ) → seat_of g.seats q.role ≡ Some n → P (done_in g m id q name n)
  pub refuses : (name : Option Ask) (r : Refusal) → P (replies_to g m id q name (refused r))

module _ (P : Gate → Type 0) (g : Gate) (m : ℕ) (id : Option Data) (q : Request) (x : Chooses P g m id q) where
  carries_so : (name : Option Ask) → P (carries g m id q name)
  carries_so name =
      cond-either P (has_shape_room g q.act) (if_some (seat_of g.seats q.role) (replies_to g m id q name (refused no_session)) (done_in g m id q name)) (replies_to g m id q name (refused limit))
      (by (seat_of g.seats q.role) refl) (x.refuses name limit)
    where
      by : (o : Option ℕ) → seat_of g.seats q.role ≡ o → P (if_some o (replies_to g m id q name (refused no_session)) (done_in g m id q name))
      by None e = x.refuses name no_session
      by (Some n) e = x.does name n e

  decides_so : (name : Option Ask) → P (decides g m id q name)
  decides_so name = cond-either P (is_elsewhere g name) (tells g m (decided_elsewhere id name)) (carries g m id q name) (x.tells (decided_elsewhere id name) (aside name)) (carries_so name)
    where
      aside : (o : Option Ask) → IsAside (decided_elsewhere id o)
      aside None = refers id 100
      aside (Some a) = leaves id 100

  verdict_so : (a : Ask) (v : Verdict) → P (by_verdict g m id q a v)
  verdict_so a carry = decides_so (Some a)
  verdict_so a (again answer) = let at = place_text (place_of g a.holder) in x.tells (answered id true at answer) (repeats id at answer)
  verdict_so a another = x.tells (undecided id 101) (leaves id 101)
  verdict_so a late = x.tells (undecided id 102) (leaves id 102)
  verdict_so a foreign = x.tells (undecided id (number_here g 103)) (leaves id (number_here g 103))
  verdict_so a ahead = x.tells (undecided id (number_here g 104)) (leaves id (number_here g 104))
  verdict_so a over = x.tells (undecided id (number_here g 104)) (leaves id (number_here g 104))

  pub shares_so : (c : Client) (claim : Option Claim) → P (shares g m c id q claim)
  shares_so c None = decides_so None
  shares_so c (Some k) = let a = asked_by c q.line k in verdict_so a (verdict (names_of g) a)

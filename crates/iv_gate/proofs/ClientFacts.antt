-- A fact of clients that each step keeps, through all that an event does.
use Rattle.std.proofs.Common.{◌≡◌, ℕ, Bool, true, false, List, [], ◌∷◌, Option, Some, option_map, refl, ap, ◌∙◌, subst, cond, sym}
use Rattle.std.specs.Prelude.{◌==◌, ◌++◌, is_some, map, None}
use Rattle.std.specs.List.{AllByRecursion}
use Rattle.std.proofs.lemmas.Bool.{eqb-true, eqb-false}
use Rattle.serde_json.specs.Data.{Data}
use Rattle.iv_access.specs.Rights.{Name}
use Rattle.iv_machine.specs.Act.{Command, Reply, refused}
use Rattle.iv_machine.specs.Machine.{step, Outcome}
use Rattle.iv_message.specs.Message.{Message}
use Rattle.iv_message.specs.Told.{Told, made, granted}
use Rattle.iv_clients.specs.Clients.{Client, Slots, at_all, at_client, client_at, closing, following, moved, settling, staying, telling, told_one, own_lines}
use Rattle.iv_clients.specs.Feeds.{Seat}
use Rattle.iv_records.specs.Journal.{Entry, Request, shape_for}
use Rattle.iv_once.specs.Names.{Ask}
use Rattle.iv_clients.proofs.Slots.{client_at-at_all, client_at-at_other_client, client_at-at_client, same-Some}
use Rattle.iv_gate.specs.Gate.{Gate, all_rested, all_swept, done_for, entered, entries_of, in_session, ran, replies_to, reply_to, reply_told, done_in, settles, informs, tells, told_of, with_session, went_on, next_position}
use Rattle.iv_gate.proofs.ShapeTexts.{all_made}
use Rattle.iv_gate.proofs.StepRelations.{Steps, request_of, step_all_rested, step_all_swept, step_done, step_with}
use Rattle.iv_gate.specs.Arriving.{Step, entry_of, fact_of, fault_of, was_taken, landed, newly, takes}
use Rattle.iv_rows.specs.Options.{if_some}
use Rattle.iv_steps.specs.Steps.{stepped}

-- what each step keeps of each client; client m alone is told what is its own
pub record Kit (m : ℕ) (R : ℕ → Client → Client → Type 0) : Type 0 where
  pub same : (j : ℕ) (c : Client) → R j c c
  pub chain : (j : ℕ) (b c d : Client) → R j b c → R j c d → R j b d
  pub hear : (j : ℕ) (c : Client) (g : Gate) (k : Command) → R j c (staying (step g.machine k).lines (telling g.entries (told_of g k.act (step g.machine k) c) c))
  pub rest : (j : ℕ) (c : Client) (es : List Entry) → R j c (settling es c)
  pub tell : (c : Client) (es : List Entry) (t : Told) → R m c (told_one es t c)
  pub show : (j : ℕ) (c : Client) (es : List Entry) (role line : List ℕ) → R j c (told_one es (made role line) c)
  pub follow : (c : Client) (k : ℕ) → R m c (following k c)
  pub move : (c : Client) (t k : ℕ) → R m c (moved t k c)
  pub close : (c : Client) (own : ℕ) → R m c (closing own c)

pub record Later (R : ℕ → Client → Client → Type 0) (slots : Slots) (j : ℕ) (c : Client) : Type 0 where
  pub now : Client
  pub there : client_at slots j ≡ Some now
  pub so : R j c now

abbrev pub Leads : (ℕ → Client → Client → Type 0) → Slots → Slots → Type 0
Leads R old new = (j : ℕ) (c : Client) → client_at old j ≡ Some c → Later R new j c

-- what a client is told of a step, but for the shape and that this is all
abbrev pub step_told : Gate → Outcome → Client → List Told
step_told g o c = own_lines g.feeds o.lines c.subs ++ map granted (newly g.machine.frame o.state.frame c.role)

-- the client that it leads to
abbrev pub landed_client : Gate → Entry → Outcome → Client → Client
landed_client g e o c = let es = g.entries ++ e ∷ [] in let z = staying o.lines (telling es (step_told g o c) c) in settling es (telling es (shape_for z.role (e ∷ [])) z)

pub client_at-landed : (g : Gate) (e : Entry) (o : Outcome) (j : ℕ) (c : Client) → client_at g.clients j ≡ Some c → client_at (landed g e o).clients j ≡ Some (landed_client g e o c)
client_at-landed g e o j c t =
    let es = g.entries ++ e ∷ [] in
    let first : Client → Client = λ (x : Client). staying o.lines (telling es (step_told g o x) x) in
    let shapes : Client → Client = λ (x : Client). telling es (shape_for x.role (e ∷ [])) x in
    client_at-at_all (settling es) (at_all shapes (at_all first g.clients)) j ∙ ap (option_map (settling es)) (client_at-at_all shapes (at_all first g.clients) j ∙ ap (option_map shapes) (client_at-at_all first g.clients j ∙ ap (option_map first) t))

-- whatever comes of a step, a client stays as it is, or is told of it
pub client_at-takes : (P : Client → Type 0) (g : Gate) (s : Step) (j : ℕ) (c d : Client) → client_at g.clients j ≡ Some c → client_at (takes g s).clients j ≡ Some d → P c
    → ((o : Outcome) → stepped (map fact_of s.requests) g.machine ≡ Some o → P (landed_client g (entry_of s) o c)) → P d
client_at-takes P g s j c d t k same led = by (is_some (fault_of g s)) (was_taken g s) (stepped (map fact_of s.requests) g.machine) refl k
  where
    by : (x y : Bool) (o : Option Outcome) → stepped (map fact_of s.requests) g.machine ≡ o → client_at (cond x (record g { dead = true }) (cond y g (if_some o g (landed g (entry_of s))))).clients j ≡ Some d → P d
    by true y o e i = subst P (same-Some c d (sym t ∙ i)) same
    by false true o e i = subst P (same-Some c d (sym t ∙ i)) same
    by false false None e i = subst P (same-Some c d (sym t ∙ i)) same
    by false false (Some o) e i = subst P (same-Some (landed_client g (entry_of s) o c) d (sym (client_at-landed g (entry_of s) o j c t) ∙ i)) (led o e)

module _ (m : ℕ) (R : ℕ → Client → Client → Type 0) (kit : Kit m R) where
  pub to_same : (slots : Slots) → Leads R slots slots
  to_same slots j c h = record { now = c; there = h; so = kit.same j c }

  pub to_then : (a b c : Slots) → Leads R a b → Leads R b c → Leads R a c
  to_then a b c f g j x h = let p = f j x h in let q = g j p.now p.there in record { now = q.now; there = q.there; so = kit.chain j x p.now q.now p.so q.so }

  pub to_all : (f : Client → Client) → ((j : ℕ) (c : Client) → R j c (f c)) → (slots : Slots) → Leads R slots (at_all f slots)
  to_all f k slots j c h = record { now = f c; there = client_at-at_all f slots j ∙ ap (option_map f) h; so = k j c }

  pub to_one : (f : Client → Client) → ((c : Client) → R m c (f c)) → (slots : Slots) → Leads R slots (at_client m f slots)
  to_one f k slots j c h = by (m == j) refl
    where
      by : (b : Bool) → (m == j) ≡ b → Later R (at_client m f slots) j c
      by true e =
          let same = eqb-true m j e in
          record { now = f c; there = ap (λ i. client_at (at_client i f slots) j) same ∙ (client_at-at_client j f slots ∙ ap (option_map f) h); so = subst (λ i. R i c (f c)) same (k c) }
      by false e = record { now = c; there = client_at-at_other_client m j f slots (eqb-false m j e) ∙ h; so = kit.same j c }

  pub to_ran : (g : Gate) (k : Command) → Leads R g.clients (ran g k).clients
  to_ran g k = to_all (λ c. staying (step g.machine k).lines (telling g.entries (told_of g k.act (step g.machine k) c) c)) (λ j c. kit.hear j c g k) g.clients

  pub to_tells : (g : Gate) (t : Told) → Leads R g.clients (tells g m t).clients
  to_tells g t = to_one (told_one g.entries t) (λ c. kit.tell c g.entries t) g.clients

  pub to_settles : (g : Gate) → Leads R g.clients (settles g).clients
  to_settles g = to_all (settling g.entries) (λ j c. kit.rest j c g.entries) g.clients

  shown_all : (es : List Entry) (j : ℕ) (ts : List Told) (c : Client) → AllByRecursion (λ t. (d : Client) → R j d (told_one es t d)) ts → R j c (telling es ts c)
  shown_all es j [] c a = kit.same j c
  shown_all es j (t ∷ ts) c a = kit.chain j c (told_one es t c) (telling es ts (told_one es t c)) (a.0 c) (shown_all es j ts (told_one es t c) a.1)

  to_informs : (g : Gate) (es : List Entry) → Leads R g.clients (informs g es).clients
  to_informs g es = to_all (λ c. telling g.entries (shape_for c.role es) c)
      (λ j c. shown_all g.entries j (shape_for c.role es) c (all_made (λ t. (d : Client) → R j d (told_one g.entries t d)) (λ role line d. kit.show j d g.entries role line) c.role es)) g.clients

  to_replies : (g : Gate) (id : Option Data) (q : Request) (name : Option Ask) (r : Reply) → Leads R g.clients (replies_to g m id q name r).clients
  to_replies g id q name r = let h = entered g (entries_of (next_position g) q name r) in to_tells h (reply_told h id name r)

  to_requests : (g : Gate) (id : Option Data) (q : Request) (name : Option Ask) (n : ℕ) → Leads R g.clients (done_in g m id q name n).clients
  to_requests g id q name n =
      let k = in_session n q.act in let r = reply_to g k in let h = replies_to g m id q name r in
      to_then g.clients h.clients (done_in g m id q name n).clients (to_replies g id q name r)
      (to_then h.clients (ran h k).clients (done_in g m id q name n).clients (to_ran h k) (to_informs (ran h k) (entries_of (next_position g) q name r)))

  steps : Steps m (λ g h. Leads R g.clients h.clients)
  steps = record {
    same = λ g. to_same g.clients;
    chain = λ g h i x y. to_then g.clients h.clients i.clients x y;
    run = λ g k e. to_ran g k;
    settle = to_settles;
    tell = λ g t _. to_tells g t;
    seat = λ g seats. to_same g.clients;
    feed = λ g feeds. to_same g.clients;
    follow = λ g k. to_one (following k) (λ c. kit.follow c k) g.clients;
    move = λ g t k. to_one (moved t k) (λ c. kit.move c t k) g.clients;
    close = λ g own. to_one (closing own) (λ c. kit.close c own) g.clients;
  }

  pub to_with : (g : Gate) (role : Name) → Leads R g.clients (with_session g role).clients
  to_with g role = step_with m (λ h i. Leads R h.clients i.clients) steps g role

  pub to_all_rested : (g : Gate) (ss : List Seat) → Leads R g.clients (all_rested g ss).clients
  to_all_rested g ss = step_all_rested m (λ h i. Leads R h.clients i.clients) steps g ss

  pub to_all_swept : (g : Gate) (ks : List ℕ) → Leads R g.clients (all_swept g ks).clients
  to_all_swept g ks = step_all_swept m (λ h i. Leads R h.clients i.clients) steps g ks

  pub to_done : (g : Gate) (c : Client) (text : List ℕ) (s : Message) → Leads R g.clients (done_for g m c text s).clients
  to_done g c text s =
      step_done m (λ h i. Leads R h.clients i.clients) steps g (λ h. Leads R g.clients h.clients) (λ h x. x) c text s
      (λ id act name n e shared seat. to_requests g id (request_of c text act) name n) (λ id act a r e shared. to_replies g id (request_of c text act) (Some a) (refused r))

  -- ---- a step of the log

  pub to_landed : (g : Gate) (e : Entry) (o : Outcome) → ((j : ℕ) (c : Client) → R j c (staying o.lines (telling (g.entries ++ e ∷ []) (step_told g o c) c)))
      → Leads R g.clients (landed g e o).clients
  to_landed g e o hear =
      let now = entered g (e ∷ []) in let h = went_on now o (step_told g o) in let i = informs h (e ∷ []) in
      to_then g.clients h.clients (landed g e o).clients (to_all (λ c. staying o.lines (telling now.entries (step_told g o c) c)) hear g.clients)
      (to_then h.clients i.clients (landed g e o).clients (to_informs h (e ∷ [])) (to_settles i))

  -- whatever comes of it
  pub to_takes : (g : Gate) (s : Step)
      → ((o : Outcome) → stepped (map fact_of s.requests) g.machine ≡ Some o → (j : ℕ) (c : Client) → R j c (staying o.lines (telling (g.entries ++ entry_of s ∷ []) (step_told g o c) c)))
      → Leads R g.clients (takes g s).clients
  to_takes g s hear = by (is_some (fault_of g s)) (was_taken g s) (stepped (map fact_of s.requests) g.machine) refl
    where
      by : (d p : Bool) (o : Option Outcome) → stepped (map fact_of s.requests) g.machine ≡ o
          → Leads R g.clients (cond d (record g { dead = true }) (cond p g (if_some o g (landed g (entry_of s))))).clients
      by true p o e = to_same g.clients
      by false true o e = to_same g.clients
      by false false None e = to_same g.clients
      by false false (Some o) e = to_landed g (entry_of s) o (hear o e)

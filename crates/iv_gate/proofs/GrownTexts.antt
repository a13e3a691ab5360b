-- A client is told more, after what it was told.
use Rattle.std.proofs.Common.{◌≡◌, ℕ, Bool, true, false, cond, List, [], ◌∷◌, ◌++◌, length, drop, map, refl, ap, ◌∙◌, sym, append-nil}
use Rattle.std.specs.Prelude.{flat_map}
use Rattle.iv_machine.specs.Act.{Command}
use Rattle.iv_machine.specs.Machine.{step}
use Rattle.iv_message.specs.Told.{Told, made, settled}
use Rattle.iv_clients.specs.Clients.{Client, Shown, all_shown, settling, staying, telling, told_one}
use Rattle.iv_records.specs.Journal.{Entry}
use Rattle.iv_gate.specs.Gate.{Gate, told_of}
use Rattle.iv_gate.proofs.ClientFacts.{Kit}

pub append-associative : {X : Type 0} (xs ys zs : List X) → (xs ++ ys) ++ zs ≡ xs ++ (ys ++ zs)
append-associative [] ys zs = refl
append-associative (x ∷ xs) ys zs = ap (λ z. x ∷ z) (append-associative xs ys zs)

-- ---- by a step

-- it was told more, which waits
pub record Grown (c d : Client) : Type 0 where
  pub more : List Shown
  pub handed : d.handed ≡ c.handed
  pub sendable : d.sendable ≡ c.sendable
  pub unsynced : d.unsynced ≡ c.unsynced ++ more

grown_same : (c : Client) → Grown c c
grown_same c = record { more = []; handed = refl; sendable = refl; unsynced = sym (append-nil c.unsynced) }

grown_then : (b c d : Client) → Grown b c → Grown c d → Grown b d
grown_then b c d x y = record {
  more = x.more ++ y.more;
  handed = y.handed ∙ x.handed;
  sendable = y.sendable ∙ x.sendable;
  unsynced = y.unsynced ∙ (ap (λ z. z ++ y.more) x.unsynced ∙ append-associative b.unsynced x.more y.more);
}

pub grown_one : (es : List Entry) (t : Told) (c : Client) → Grown c (told_one es t c)
grown_one es t c = record { more = record { told = t; entries = es; answers = false } ∷ []; handed = refl; sendable = refl; unsynced = refl }

grown_telling : (es : List Entry) (ts : List Told) (c : Client) → Grown c (telling es ts c)
grown_telling es [] c = grown_same c
grown_telling es (t ∷ ts) c = grown_then c (told_one es t c) (telling es ts (told_one es t c)) (grown_one es t c) (grown_telling es ts (told_one es t c))

grown_settling : (es : List Entry) (c : Client) → Grown c (settling es c)
grown_settling es c = by c.owed
  where
    by : (b : Bool) → Grown c (cond b (record (told_one es settled c) { owed = false }) c)
    by true = record { more = record { told = settled; entries = es; answers = false } ∷ []; handed = refl; sendable = refl; unsynced = refl }
    by false = grown_same c

grown_ran : (c : Client) (g : Gate) (k : Command) → Grown c (staying (step g.machine k).lines (telling g.entries (told_of g k.act (step g.machine k) c) c))
grown_ran c g k =
    let x = grown_telling g.entries (told_of g k.act (step g.machine k) c) c in
    record { more = x.more; handed = x.handed; sendable = x.sendable; unsynced = x.unsynced }

-- where text is the same
grown_text : (c d : Client) → d.handed ≡ c.handed → d.sendable ≡ c.sendable → d.unsynced ≡ c.unsynced → Grown c d
grown_text c d h s u = record { more = []; handed = h; sendable = s; unsynced = u ∙ sym (append-nil c.unsynced) }

pub Kit-Grown : (m : ℕ) → Kit m (λ j c d. Grown c d)
Kit-Grown m = record {
  same = λ j c. grown_same c;
  chain = λ j b c d x y. grown_then b c d x y;
  hear = λ j c g k. grown_ran c g k;
  rest = λ j c es. grown_settling es c;
  tell = λ c es t. grown_one es t c;
  show = λ j c es role line. grown_one es (made role line) c;
  follow = λ c k. grown_text c _ refl refl refl;
  move = λ c t k. grown_text c _ refl refl refl;
  close = λ c own. grown_text c _ refl refl refl;
}

-- ---- text

pub all_shown-Grown : (c d : Client) (x : Grown c d) → all_shown d ≡ all_shown c ++ x.more
all_shown-Grown c d x =
    (λ i. flat_map (λ ss. ss) (x.handed i) ++ (x.sendable i ++ x.unsynced i))
    ∙ (ap (λ z. flat_map (λ ss. ss) c.handed ++ z) (sym (append-associative c.sendable c.unsynced x.more)) ∙ sym (append-associative (flat_map (λ ss. ss) c.handed) (c.sendable ++ c.unsynced) x.more))

pub drop-append_front : {X : Type 0} (xs ys : List X) → drop (length xs) (xs ++ ys) ≡ ys
drop-append_front [] ys = refl
drop-append_front (x ∷ xs) ys = drop-append_front xs ys

pub map-append_front : {X Y : Type 0} (f : X → Y) (xs ys : List X) → map f (xs ++ ys) ≡ map f xs ++ map f ys
map-append_front f [] ys = refl
map-append_front f (x ∷ xs) ys = ap (λ z. f x ∷ z) (map-append_front f xs ys)

pub append-drop_front : {X : Type 0} (xs ys zs : List X) → zs ≡ xs ++ ys → zs ≡ xs ++ drop (length xs) zs
append-drop_front xs ys zs e = e ∙ ap (λ z. xs ++ z) (sym (ap (drop (length xs)) e ∙ drop-append_front xs ys))

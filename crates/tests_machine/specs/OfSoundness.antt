-- Worked examples of states that are not sound, so that the laws on what a role learns do not hold: all their other premises do.
use Rattle.std.specs.Prelude.{◌≡◌, ◌++◌, pos, negsuc, false, List, [], ◌∷◌, codes, map, Some}
use Rattle.iv_bind.specs.Catalogs.{CatalogEntry, Held, Table, View}
use Rattle.iv_access.specs.declared.privilege.Privilege.TheVariants.{Select}
use Rattle.iv_machine.specs.declared.Cause.TheVariants as cause
use Rattle.iv_machine.specs.Act.{begin, create_role, create_table, create_view, grant, subscribe, Command, change, done, ended, limit, reply}
use Rattle.iv_machine.specs.Learned.{LooksAlike, SeesSameRows, StayAlike, changes_rights, subscriptions_of}
use Rattle.iv_machine.specs.Machine.{step}
use Rattle.iv_machine.specs.Refusing.{refusal}
use Rattle.iv_machine.specs.State.{State, Subscription, missing_for, start}
use Rattle.tests_machine.specs.OfLearning.{BothAccept, Differ, IsAccepted, IsTold, by_admin, by_ann, holding, left_by, puts, reads_again}
use Rattle.tests_machine.specs.Worked.{Steps, after_steps, admin, ann, asks, bob, column, first, notes, of_ann, opens, texts}

-- ---- states

-- ann's subscription to notes is open, and she has no select on it
abbrev pub unread : State
unread = holding (record first { frame = record first.frame { rights = record first.frame.rights { grants = [] } } }) (of_ann 1 ∷ [])

-- the same, with no note
abbrev pub emptied : State
emptied = holding unread []

abbrev pub opened_by_ann : Subscription
opened_by_ann = record { session = 2; number = 1; rel = 0 }

-- a table may have one row; ann has no privilege, and `admin` has subscribed to notes
abbrev pub watch : Steps
watch =
    asks 1 (begin admin) []
    ∷ asks 1 (create_role ann) []
    ∷ asks 1 (create_table notes admin (column (codes "id") ∷ texts (codes "who") ∷ [])) []
    ∷ opens 1 notes 1 []
    ∷ []

abbrev pub watched : State
watched = after_steps (start 1) watch

-- the same, with two notes
abbrev pub crowded : State
crowded = holding watched (of_ann 1 ∷ of_ann 2 ∷ [])

-- a table may have one row; ann has select on a view of notes, and on notes none
abbrev pub viewed : State
viewed = after_steps (start 1) (
    asks 1 (begin admin) []
    ∷ asks 1 (create_role ann) []
    ∷ asks 1 (create_table notes admin (column (codes "id") ∷ texts (codes "who") ∷ [])) []
    ∷ asks 1 (create_view (codes "all") admin (codes "select id from notes")) []
    ∷ asks 1 (grant (codes "all") (Select ∷ []) (Some ann)) []
    ∷ asks 2 (begin ann) []
    ∷ [])

-- a view that needs nothing but itself
abbrev pub forgotten : Held → Held
forgotten (Table columns) = Table columns
forgotten (View answer) = View (record answer { needs = [] })

abbrev pub forgets : CatalogEntry → CatalogEntry
forgets e = record e { held = forgotten e.held }

-- the same, if the view does not say that it needs notes
abbrev pub forgetful : State
forgetful = record viewed { frame = record viewed.frame { catalog = map forgets viewed.frame.catalog } }

-- the same, with two notes
abbrev pub filled : State
filled = holding forgetful (of_ann 1 ∷ of_ann 2 ∷ [])

-- ann's two subscriptions, the second before the first
abbrev pub turned : List Subscription → List Subscription
turned [] = []
turned (e ∷ es) = turned es ++ e ∷ []

abbrev pub disordered : State
disordered = let s = left_by first reads_again in record s { frame = record s.frame { subscriptions = turned s.frame.subscriptions } }

-- ---- commands

abbrev pub names_bob : Command
names_bob = by_admin (create_role bob)

abbrev pub enters : Command
enters = by_ann (begin ann)

abbrev pub reads_all : Command
reads_all = by_ann (subscribe (codes "all"))

-- ---- what goes wrong

-- ann may not read what she is subscribed to: its last line takes back rows that she may not see
abbrev pub UnsoundTells : Type 0
UnsoundTells =
    LooksAlike 1 unread emptied
    × StayAlike 1 unread emptied (names_bob ∷ [])
    × Differ unread emptied names_bob
    (ended 2 1 cause.Privilege ((of_ann 1, negsuc 0) ∷ []) ∷ [])
    (ended 2 1 cause.Privilege [] ∷ [])

-- a subscription is not within the limits: it ends after a command that leaves rights, and the frames differ
abbrev pub UnsoundLeaves : Type 0
UnsoundLeaves =
    LooksAlike 1 crowded watched
    × BothAccept crowded watched enters
    × (changes_rights enters.act ≡ false)
    × ((left_by crowded enters).frame.subscriptions ≡ [])
    × ((left_by watched enters).frame.subscriptions ≡ record { session = 1; number = 1; rel = 0 } ∷ [])

-- a view scans what it does not need: rows that ann may not see decide whether she may subscribe
abbrev pub UnsoundSubscribes : Type 0
UnsoundSubscribes =
    LooksAlike 1 filled forgetful
    × (refusal filled 2 reads_all.act ≡ Some limit)
    × IsAccepted forgetful reads_all

-- ann may not read what she is subscribed to: she is told a row without news
abbrev pub UnsoundIsLoud : Type 0
UnsoundIsLoud =
    SeesSameRows 1 unread (left_by unread puts)
    × (subscriptions_of 1 unread.frame ≡ opened_by_ann ∷ [])
    × (subscriptions_of 1 (left_by unread puts).frame ≡ opened_by_ann ∷ [])
    × IsTold unread puts (change 2 1 ((of_ann 3, pos 1) ∷ []) ∷ [])

-- and a change goes to one who may not read
abbrev pub UnsoundReads : Type 0
UnsoundReads =
    ((step unread puts).lines ≡ reply 1 done ∷ change 2 1 ((of_ann 3, pos 1) ∷ []) ∷ [])
    × (missing_for (left_by unread puts).frame 1 0 ≡ Some (Select, 0))

-- subscriptions that are in another order tell their lines in it
abbrev pub UnsoundOrder : Type 0
UnsoundOrder = (step disordered puts).lines ≡ reply 1 done ∷ change 2 2 ((of_ann 3, pos 1) ∷ []) ∷ change 2 1 ((of_ann 3, pos 1) ∷ []) ∷ []

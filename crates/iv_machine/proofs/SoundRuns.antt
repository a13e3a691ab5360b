-- What is stored stays sound: a command, and many.
use Rattle.std.proofs.Common.{◌≡◌, ℕ, true, List, [], ◌∷◌, Option, Some, None, Result, Ok, Err, refl}
use Rattle.std.specs.Prelude.{IfOk, nat_le, nat_lt, ◌^◌, ◌&&◌}
use Rattle.std.specs.List.{All}
use Rattle.std.specs.Str.{IsUtf8}
use Rattle.std.proofs.lemmas.List.Elements.{All-head, All-nil, All-tail}
use Rattle.iv_query.specs.declared.tree.Dialect.TheVariants.{Policy}
use Rattle.iv_query.specs.Grammar.{pred, Reads, Faults}
use Rattle.iv_query.specs.Query.{IsQuery, IsQueryFault}
use Rattle.iv_query.specs.QueryReading.{query_at}
use Rattle.iv_query.specs.TextReading.{policy_condition_at, read_pred, read_query}
use Rattle.iv_query.specs.Texts.{IsOutcome, IsPredText, HasPredFault, IsQueryText, HasQueryFault}
use Rattle.iv_query.proofs.PredLaws.{Agreement-pred_at}
use Rattle.iv_query.proofs.SelectLaws.{Agreement-query_at}
use Rattle.iv_query.proofs.TextLaws.{text_read}
use Rattle.iv_bind.specs.BoundTexts.{bound_query}
use Rattle.iv_bind.specs.Catalogs as catalogs
use Rattle.iv_bind.specs.Sound.{IsSoundCatalog, IsSoundView, ReadsWell}
use Rattle.iv_bind.proofs.Whole.{IsSoundView-bound_query}
use Rattle.iv_access.proofs.PolicyOrder.{Rise-IsReached}
use Rattle.iv_access.specs.Laws.{PoliciesRise}
use Rattle.iv_access.specs.Reached.{at_start}
use Rattle.iv_machine.specs.Act.{Act, Command, Refusal}
use Rattle.iv_machine.specs.State.{State, Frame, start}
use Rattle.iv_machine.specs.Changing.{after_frame, after_rights}
use Rattle.iv_machine.specs.Machine.{hung, outcome, step, run}
use Rattle.iv_machine.specs.Numbered.{IsNumbered}
use Rattle.iv_machine.specs.Refusing.{frame_refusal, refusal}
use Rattle.iv_machine.specs.Sound.{IsSoundState}
use Rattle.iv_machine.specs.Stored.{HasNeeds, HasTexts, IsGiven, IsStoredSound}
use Rattle.iv_machine.specs.Well.{is_well_act}
use Rattle.iv_machine.proofs.RunInvariants.{step_keeps}
use Rattle.iv_machine.proofs.KnownNames.{AreKnown-after_rights, AreKnown-start}
use Rattle.iv_machine.proofs.ViewNeeds.{HaveNeeds-after_catalog}
use Rattle.iv_machine.proofs.OpenSubscriptions.{and-both_true, refusal-None}
use Rattle.iv_machine.proofs.Sound.{IsWhole, IsSoundState-hung, IsWhole-settled, IsWhole-IsSoundState, IsSoundState-start, IsWhole-start, IsSoundState-step}
use Rattle.iv_machine.proofs.StoredRights.{fits_given, guarded_after, IsReached-after_rights}
use Rattle.iv_machine.proofs.SoundCatalog.{IsSoundCatalog-after_frame}

module _ (reads_pred : (bs : List ℕ) → IsUtf8 bs → IsOutcome IsPredText HasPredFault bs (read_pred bs))
    (reads_query : (bs : List ℕ) → IsUtf8 bs → IsOutcome IsQueryText HasQueryFault bs (read_query bs))
    (bound_sound : (es : List catalogs.CatalogEntry) (text : List ℕ) → IsSoundCatalog es → ReadsWell text → IfOk (bound_query es text) (λ a. IsSoundView es a))
    (rises : PoliciesRise) where
  after_stored : (f : Frame) (n : ℕ) (act : Act) → frame_refusal f n act ≡ None → is_well_act act ≡ true → HasTexts act → IsNumbered f → IsStoredSound f → IsStoredSound (after_frame f n act)
  after_stored f n act r w x m k =
      let rights = IsReached-after_rights f n act r k.rights in
      record {
        rights = rights;
        rise = rises (after_rights f act) rights;
        catalog = IsSoundCatalog-after_frame f n act (fits_given reads_pred reads_query bound_sound f.catalog act w x k.catalog) k.catalog;
        policies = guarded_after reads_pred reads_query bound_sound f n act r w x m k.policies;
        known = AreKnown-after_rights f n act r m k.known;
        needs = HaveNeeds-after_catalog f act m k.needs;
      }

  outcome_stored : (s : State) (c : Command) (o : Option Refusal) → refusal s c.session c.act ≡ o → IsGiven c → IsWhole s → IsStoredSound s.frame → IsStoredSound (outcome s c o).state.frame
  outcome_stored s c None h g w k =
      let r = (refusal-None s c.session c.act h).0 in
      let a = after_stored s.frame c.session c.act r (and-both_true (nat_le 1 c.session && nat_lt c.session (2 ^ 32)) (is_well_act c.act) g.well).1 g.texts w.frame.numbered k in
      record { rights = a.rights; rise = a.rise; catalog = a.catalog; policies = a.policies; known = a.known; needs = a.needs }
  outcome_stored s c (Some x) h g w k = k

  pub step_stored : (s : State) (c : Command) → IsGiven c → IsWhole s → IsStoredSound s.frame → IsStoredSound (step s c).state.frame
  step_stored s c g w k = outcome_stored s c (refusal s c.session c.act) refl g w k

  run_stored : (s : State) (cs : List Command) → All IsGiven cs → IsWhole s → IsStoredSound s.frame → IsStoredSound (run s cs).state.frame
  run_stored s [] g w k = k
  run_stored s (c ∷ cs) g w k = run_stored (step s c).state cs (All-tail IsGiven c cs g) (step_keeps IsWhole IsWhole-settled s c w) (step_stored s c (All-head IsGiven c cs g) w k)

  pub start_stored : (cap : ℕ) → IsStoredSound (start cap).frame
  start_stored cap = record { rights = at_start; rise = rises (start cap).frame.rights at_start; catalog = tt; policies = tt; known = AreKnown-start cap; needs = All-nil (λ (e : catalogs.CatalogEntry). HasNeeds 0 e.held) }

  pub runs_stored : (cap : ℕ) (cs : List Command) → All IsGiven cs → IsStoredSound (run (start cap) cs).state.frame
  runs_stored cap cs g = run_stored (start cap) cs g (IsWhole-start cap) (start_stored cap)

-- ---- without premises on the crates below

reads_pred : (bs : List ℕ) → IsUtf8 bs → IsOutcome IsPredText HasPredFault bs (read_pred bs)
reads_pred = text_read (Reads Policy pred 32) (λ stop. Faults stop Policy pred 32) policy_condition_at (Agreement-pred_at Policy)

reads_query : (bs : List ℕ) → IsUtf8 bs → IsOutcome IsQueryText HasQueryFault bs (read_query bs)
reads_query = text_read IsQuery IsQueryFault query_at Agreement-query_at

if_ok : {X E : Type 0} (P : X → Type 0) (r : Result X E) → ((x : X) → r ≡ Ok x → P x) → IfOk r P
if_ok P (Ok x) h = h x refl
if_ok P (Err e) h = tt

binds_sound : (es : List catalogs.CatalogEntry) (text : List ℕ) → IsSoundCatalog es → ReadsWell text → IfOk (bound_query es text) (λ a. IsSoundView es a)
binds_sound es text s w = if_ok (λ a. IsSoundView es a) (bound_query es text) (λ a h. IsSoundView-bound_query es text a s w h)

rises_by_name : PoliciesRise
rises_by_name r h table = Rise-IsReached h table

-- a state that is sound, and so is what it stores
abbrev pub IsSoundWhole : State → Type 0
IsSoundWhole s = IsSoundState s × IsStoredSound s.frame

pub IsSoundWhole-start : (cap : ℕ) → IsSoundWhole (start cap)
IsSoundWhole-start cap = (IsSoundState-start cap, start_stored reads_pred reads_query binds_sound rises_by_name cap)

pub IsSoundWhole-step : (s : State) (c : Command) → IsGiven c → IsSoundWhole s → IsSoundWhole (step s c).state
IsSoundWhole-step s c g k = (IsSoundState-step s c k.0, step_stored reads_pred reads_query binds_sound rises_by_name s c g (IsWhole-IsSoundState s k.0) k.1)

pub IsSoundWhole-run : (s : State) (cs : List Command) → All IsGiven cs → IsSoundWhole s → IsSoundWhole (run s cs).state
IsSoundWhole-run s [] g k = k
IsSoundWhole-run s (c ∷ cs) g k = IsSoundWhole-run (step s c).state cs (All-tail IsGiven c cs g) (IsSoundWhole-step s c (All-head IsGiven c cs g) k)

pub IsSoundWhole-hung : (s : State) → IsSoundWhole s → IsSoundWhole (hung s)
IsSoundWhole-hung s k = (IsSoundState-hung s k.0, record { rights = k.1.rights; rise = k.1.rise; catalog = k.1.catalog; policies = k.1.policies; known = k.1.known; needs = k.1.needs })

-- The catalog stays sound.
use Rattle.std.proofs.Common.{◌≡◌, ℕ, Option, Some, None, Result, Ok, Err, refl}
use Rattle.iv_bind.specs.BoundTexts.{TextFault, bound_query}
use Rattle.iv_bind.specs.Catalogs.{BoundQuery, Table, View}
use Rattle.iv_bind.specs.Sound.{HeldIsSound, IsSoundCatalog}
use Rattle.iv_bind.proofs.LargerCatalog.{IsSoundCatalog-push}
use Rattle.iv_access.specs.Rights.{Name}
use Rattle.iv_machine.specs.Act.{Act, create_table, create_view, Command, Refusal}
use Rattle.iv_machine.specs.Changing.{view_held, with_held, after_frame}
use Rattle.iv_machine.specs.Machine.{outcome, step}
use Rattle.iv_machine.specs.Refusing.{refusal}
use Rattle.iv_machine.specs.State.{Frame, next_rel, State}
use Rattle.iv_machine.specs.Typed.{FitsCatalog}

viewed : (f : Frame) (name : Name) (r : Result BoundQuery TextFault) → ((a : BoundQuery) → r ≡ Ok a → HeldIsSound f.catalog (View a)) → IsSoundCatalog f.catalog → IsSoundCatalog (with_held name (view_held r) f.catalog)
viewed f name (Ok a) fits s = IsSoundCatalog-push f.catalog (record { name = name; rel = next_rel f.catalog; held = View a }) s (fits a refl)
viewed f name (Err fault) fits s = s

pub IsSoundCatalog-after_frame : (f : Frame) (n : ℕ) (act : Act) → FitsCatalog f.catalog act → IsSoundCatalog f.catalog → IsSoundCatalog (after_frame f n act).catalog
IsSoundCatalog-after_frame f n (create_table name owner columns) fits s = IsSoundCatalog-push f.catalog (record { name = name; rel = next_rel f.catalog; held = Table columns }) s fits
IsSoundCatalog-after_frame f n (create_view name owner query) fits s = viewed f name (bound_query f.catalog query) fits s
IsSoundCatalog-after_frame f n _ fits s = s

outcome_typed : (s : State) (c : Command) (o : Option Refusal) → FitsCatalog s.frame.catalog c.act → IsSoundCatalog s.frame.catalog → IsSoundCatalog (outcome s c o).state.frame.catalog
outcome_typed s c None fits k = IsSoundCatalog-after_frame s.frame c.session c.act fits k
outcome_typed s c (Some r) fits k = k

pub IsSoundCatalog-step : (s : State) (c : Command) → FitsCatalog s.frame.catalog c.act → IsSoundCatalog s.frame.catalog → IsSoundCatalog (step s c).state.frame.catalog
IsSoundCatalog-step s c = outcome_typed s c (refusal s c.session c.act)

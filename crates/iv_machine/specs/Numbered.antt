-- How relations are numbered.
use Rattle.std.specs.Prelude.{◌≡◌, ℕ, suc, List, [], ◌∷◌, length}
use Rattle.iv_bind.specs.Catalogs.{CatalogEntry}
use Rattle.iv_machine.specs.State.{Frame}

-- each relation has its place, counted from n, as its number
abbrev pub AreNumbered : ℕ → List CatalogEntry → Type 0
AreNumbered n [] = Unit {0}
AreNumbered n (e ∷ es) = (e.rel ≡ n) × AreNumbered (suc n) es

-- from 0, and so has its guard
pub record IsNumbered (f : Frame) : Type 0 where
  pub relations : AreNumbered 0 f.catalog
  pub guards : length f.rights.guards ≡ length f.catalog

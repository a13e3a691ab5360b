use Rattle.std.proofs.Common.{rules, ◌≡◌, ◌<◌, length, string_bytes, sym, subst}
use Rattle.iv_database.specs.Database.{frame_of}
use Rattle.iv_database.specs.Placed.{IsPlaced}
use Rattle.iv_database.proofs.FrameTests.{last-AllByRecursion}
use Rattle.iv_database.proofs.database.Database.relation_behind.Goals as goal

pub returns-then-eq : goal.returns-then-eq
returns-then-eq c =
    let f = frame_of c.args.self.now in
    let some : 0 < length c.args.placed.now = search rules in
    let last : IsPlaced f c.in-Some.last.now = last-AllByRecursion (IsPlaced f) c.args.placed.now c.in-Some.last.now c.requires.placed some c.in-Some.ensures.item.1 in
    let seen = subst (IsPlaced f) (sym c.last-in-Some.view_is) last in
    let same : string_bytes c.last-in-Some.inside.name ≡ c.args.name.now = search rules in
    record { known = sym (rw same at seen.known); number = rw same at seen.number; name = rw same at seen.name; columns = rw same at seen.columns }

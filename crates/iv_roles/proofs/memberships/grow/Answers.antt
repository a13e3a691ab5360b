use Rattle.std.proofs.Common.{◌∙◌, ap, [], ◌∷◌, length, length-append, arith}
use Rattle.iv_roles.specs.Rows.{leads}
use Rattle.iv_roles.proofs.Flags.{leads-push}
use Rattle.iv_roles.proofs.memberships.grow.Goals as goal

pub loop-place-preserved : goal.loop-place-preserved
loop-place-preserved c =
    let h = c.loop-place.invariant in
    let rows = c.loop-place.rows.items in
    let row = c.no_flags.result in
    let more = length-append rows (row ∷ []) in
    let long = h.1 in (
      λ a b. ap (λ rs. leads rs a b) c.in_ok-push.ensures.items ∙ (leads-push rows row c.no_flags.ensures a b ∙ h.0 a b),
      ap length c.in_ok-push.ensures.items ∙ omega (arith, more, long),
    )

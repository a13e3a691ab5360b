use Rattle.std.proofs.Common.{◌≡◌, ◌<◌, ◌+◌, ◌-◌, suc, List, length, refl, ap, ◌∙◌, sym, subst, inr, arith}
use Rattle.iv_tokens.specs.Web.{Web}
use Rattle.iv_admission.specs.Admitting.{is_in_use}
use Rattle.iv_admission.proofs.HandedTokens.{in_use_same, later_still}
use Rattle.iv_admission.proofs.KeptBehind.{kept_all, kept_behind, kept_front, kept_more, kept_none}
use Rattle.iv_admission.proofs.admission.Admission.forget_unused.Goals as goal

pub forget_at-requires : goal.forget_at-requires
forget_at-requires c =
    let old = c.args.self.now in
    let n = length c.web-count.result.now in
    let k = n - 1 - c.loop-back.back in
    let h : k < length old.known.web = omega (arith, c.loop-back.invariant.count) in
    let e : n - c.loop-back.back ≡ suc k = omega arith in
    subst (λ (ws : List Web). k < length ws) (sym (c.loop-back.invariant.web ∙ ap (kept_behind (is_in_use old) old.known.web) e))
    (kept_front (is_in_use old) old.known.web k h)

pub loop-back-init : goal.loop-back-init
loop-back-init c =
    let old = c.args.self.now in
    let n = length c.web-count.result.now in
    let count : n ≡ length old.known.web = ap (λ (ws : List Web). length ws) c.web-count.ensures in
    let all : n - 0 ≡ length old.known.web = omega (arith, count) in
    record {
      count = count;
      web = sym (kept_all (is_in_use old) old.known.web (n - 0) all);
      same = (refl, refl, refl, refl);
      admins = refl;
      looked = refl;
      later = inr refl;
    }

pub loop-back-preserved : goal.loop-back-preserved
loop-back-preserved c =
    let old = c.args.self.now in
    let before = c.loop-back.invariant in
    let n = length c.web-count.result.now in
    let k = n - 1 - c.loop-back.back in
    let h : k < length old.known.web = omega (arith, before.count) in
    let e : n - c.loop-back.back ≡ suc k = omega arith in
    let f : n - (c.loop-back.back + 1) ≡ k = omega arith in
    record {
      count = before.count;
      web = kept_more (is_in_use old) (is_in_use c.loop-back.self) old.known.web c.loop-back.self.known.web c.forget_at.new.self.known.web k _ _ h e f
          before.web (in_use_same old c.loop-back.self before.same.2 before.same.3) c.forget_at.ensures.web;
      same = (
        c.forget_at.ensures.same.0.0 ∙ before.same.0,
        c.forget_at.ensures.same.0.1 ∙ before.same.1,
        c.forget_at.ensures.same.0.2 ∙ before.same.2,
        c.forget_at.ensures.same.0.3 ∙ before.same.3,
      );
      admins = c.forget_at.ensures.same.1 ∙ before.admins;
      looked = c.forget_at.ensures.looked ∙ before.looked;
      later = later_still old.known c.loop-back.self.known c.forget_at.new.self.known before.later c.forget_at.ensures.later;
    }

pub returns-clause-web : goal.returns-clause-web
returns-clause-web c =
    let old = c.args.self.now in
    let none : length c.web-count.result.now - c.loop-back.back ≡ 0 = omega arith in
    c.loop-back.invariant.web ∙ kept_none (is_in_use old) old.known.web _ none

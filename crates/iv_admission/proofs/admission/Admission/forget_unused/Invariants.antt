use Rattle.std.proofs.Common.{◌≡◌, ◌-◌, length, true}
use Rattle.iv_admission.specs.Admitting.{IsLater, IsSameBut, is_in_use}
use Rattle.iv_admission.proofs.KeptBehind.{kept_behind}
use Rattle.iv_admission.proofs.admission.Admission.forget_unused.Given as goal

abbrev pub invariant-loop-back : goal.invariant-loop-back
invariant-loop-back l = record {
  count : l.count ≡ length l.fn.self.known.web;
  web : l.self.known.web ≡ kept_behind (is_in_use l.fn.self) l.fn.self.known.web (l.count - l.back);
  same : IsSameBut l.fn.self l.self;
  admins : l.self.admins ≡ l.fn.self.admins;
  looked : l.self.looked ≡ true;
  later : IsLater l.fn.self.known l.self.known;
}

use Rattle.std.proofs.Common.{◌∙◌, ap, option_map}
use Rattle.iv_rows.specs.Options.{if_some}
use Rattle.iv_records.specs.Names.{limits}
use Rattle.iv_once.specs.Names.{Names}
use Rattle.iv_once.specs.Runs.{nothing_known, unspent}
use Rattle.iv_head.specs.Begun.{stood}
use Rattle.iv_host.specs.Beginning.{log_of}
use Rattle.iv_host.proofs.NamesAtHead.{stood-nothing_known}
use Rattle.iv_host.proofs.beginning.head_of.Goals as goal

pub returns : goal.returns
returns c = record {
  names = c.in_ok-names.ensures
      ∙ (ap {B = Names} (λ e. record { limits = limits; known = stood (nothing_known e) c.deref.result.now; spent = unspent }) c.epoch_with.ensures
      ∙ (ap {B = Names} (λ ss. record {
        limits = limits;
        known = stood (nothing_known (if_some c.begun.inside.log c.args.epoch.now (λ f. f.epoch))) ss;
        spent = unspent;
      }) c.deref.ensures.value
      ∙ ((λ i. record {
        limits = limits;
        known = stood (nothing_known (if_some (c.begun.view_is i).log c.args.epoch.now (λ f. f.epoch))) (c.begun.view_is i).standings;
        spent = unspent;
      })
      ∙ (λ i. record { limits = limits; known = stood-nothing_known c.args.epoch.now c.args.begun i; spent = unspent }))));
  log = ap (λ p. p.0) c.log_of-log.ensures ∙ (λ i. option_map log_of (c.begun.view_is i).log);
  position = ap (λ p. p.1) c.log_of-log.ensures ∙ (λ i. if_some (c.begun.view_is i).log 0 (λ f. f.position));
}

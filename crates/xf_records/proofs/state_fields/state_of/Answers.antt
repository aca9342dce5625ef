use Rattle.std.proofs.Common.{slice_index, ap, ◌∙◌}
use mathlib.Core.HLevel.{is_prop→PathP}
use Rattle.xf_types.specs.Facts.{IsSaSpec}
use Rattle.xf_types.proofs.SameFields.{IsSaSpec-prop}
use Rattle.xf_records.specs.Codes.{number_in}
use Rattle.xf_records.specs.States.{state_of}
use Rattle.xf_records.proofs.StateLaws.{sel_is}
use Rattle.xf_records.proofs.state_fields.state_of.Goals as goal

pub returns : goal.returns
unfolding state_of
returns c =
    let w = c.window_in.ensures.window in
    let e = c.flag_in-esn.ensures in
    let n = c.number_in.ensures.number ∙ ap (λ esn. number_in esn (slice_index c.args.words.now 31)) e in
    let o = c.number_in-2.ensures.number ∙ ap (λ esn. number_in esn (slice_index c.args.words.now 32)) e in
    let facts = is_prop→PathP (λ i. IsSaSpec (w i) (n i) (o i) (e i)) (λ i. IsSaSpec-prop (w i) (n i) (o i) (e i)) _ _ in
    λ i. record {
      sid = slice_index c.args.words.now 16;
      added = slice_index c.args.words.now 17;
      larval = c.flag_in.ensures i;
      dying = c.flag_in-2.ensures i;
      spec = record {
        src = c.addr_in.ensures i;
        dst = c.addr_in-2.ensures i;
        proto = c.proto_in.ensures i;
        spi = c.small_in.ensures i;
        mode = c.mode_in.ensures i;
        reqid = c.small_in-2.ensures i;
        seq = c.small_in-3.ensures i;
        mark = record { value = c.small_in-4.ensures i; mask = c.small_in-5.ensures i };
        if_id = c.small_in-6.ensures i;
        sel = sel_is _ _ _ _ _ c.flag_in-3.ensures c.selector_of.ensures c.sel_by.ensures i;
        window = w i;
        in_seq = n i;
        out_seq = o i;
        wildrecv = c.flag_in-4.ensures i;
        esn = e i;
        limits = c.limits_of.ensures i;
        facts = facts i;
      };
    }

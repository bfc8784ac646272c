use Rattle.std.proofs.Common.{sym, ap, ◌∙◌}
use Rattle.forest_model.specs.declared.stored.Header.{Header}
use Rattle.file_parts.specs.Held.{held}
use Rattle.file_parts.specs.Moment.{moment}
use Rattle.file_commit.specs.Committing.{header_after}
use Rattle.file_commit.proofs.Padded.{opened, padded_number, near_end, entered, tells_of, sealed_of}
use Rattle.file_commit.proofs.Leaving.{ordered, ordered_at}
use Rattle.file_commit.proofs.committing.commit_new.Goals as goal

pub returns-in-Ok-clause-gives : goal.returns-in-Ok-clause-gives
returns-in-Ok-clause-gives g c =
    let p = held c.args.parts.now in
    let at_is = c.number-at.ensures ∙ padded_number c.args.parts.now.revision c.args.parts.now.tail c.pad-block.new.self c.pad-block.result c.pad-block.ensures in (
      ap (λ (h : Header). h.commit) c.next_header-header.ensures.header,
      record {
        block = c.pad-block.result;
        header = c.sealed_header-sealed.result;
        open_block = opened c.args.parts.now.revision c.args.parts.now.tail c.pad-block.new.self c.pad-block.result c.pad-block.ensures;
        is_sealed = sealed_of c.args.parts.now.revision c.number-at.result _ c.next_header-header.result (header_after p) c.sealed_header-sealed.result at_is c.next_header-header.ensures.header c.sealed_header-sealed.ensures.is_sealed;
        tells = tells_of c.next_header-header.result (header_after p) c.sealed_header-sealed.result.bytes c.next_header-header.ensures.header c.sealed_header-sealed.ensures.tells;
        held = entered p (held c.enter.new.parts) c.next_header-header.result c.number-at.result _ c.enter.ensures.held c.next_header-header.ensures.header at_is;
        files = λ t. ap (λ h. (g.H.Host.disk h).files c.args.parts.now.revision) c.enter.ensures.outside.host ∙ c.in-Ok.ensures.files t;
        shown = λ t. ap g.H.View.View.content c.enter.ensures.outside.view ∙ c.in-Ok.ensures.shown t ∙ sym (ap (λ h. (g.H.Host.disk h).files c.args.parts.now.revision) c.enter.ensures.outside.host);
      },
    )

pub enter-requires-clause-near : goal.enter-requires-clause-near
enter-requires-clause-near g c κs within =
    near_end c.args.parts.now.revision c.args.parts.now.tail c.pad-block.new.self c.pad-block.result c.args.parts.now.header_at c.number-at.result c.requires.near c.pad-block.ensures c.number-at.ensures

pub returns-in-Ok-clause-ordered : goal.returns-in-Ok-clause-ordered
returns-in-Ok-clause-ordered g c told =
    let p = held c.args.parts.now in
    let at_is = c.number-at.ensures ∙ padded_number c.args.parts.now.revision c.args.parts.now.tail c.pad-block.new.self c.pad-block.result c.pad-block.ensures in
    ordered_at (moment c.args.parts.now) (g.H.Host.disk c.put_commit.new.host) (g.H.Host.disk c.enter.new.parts.host) (ap g.H.Host.disk c.enter.ensures.outside.host)
    (ordered (moment c.args.parts.now) (g.H.Host.disk c.put_commit.new.host) c.pad-block.result c.sealed_header-sealed.result
    (opened c.args.parts.now.revision c.args.parts.now.tail c.pad-block.new.self c.pad-block.result c.pad-block.ensures)
    (sealed_of c.args.parts.now.revision c.number-at.result _ c.next_header-header.result (header_after p) c.sealed_header-sealed.result at_is c.next_header-header.ensures.header c.sealed_header-sealed.ensures.is_sealed)
    (c.put_commit.ensures.in_turn told))

pub returns-in-Err-clause-ordered : goal.returns-in-Err-clause-ordered
returns-in-Err-clause-ordered g c told =
    let p = held c.args.parts.now in
    let at_is = c.number-at.ensures ∙ padded_number c.args.parts.now.revision c.args.parts.now.tail c.pad-block.new.self c.pad-block.result c.pad-block.ensures in
    ordered (moment c.args.parts.now) (g.H.Host.disk c.put_commit.new.host) c.pad-block.result c.sealed_header-sealed.result
    (opened c.args.parts.now.revision c.args.parts.now.tail c.pad-block.new.self c.pad-block.result c.pad-block.ensures)
    (sealed_of c.args.parts.now.revision c.number-at.result _ c.next_header-header.result (header_after p) c.sealed_header-sealed.result at_is c.next_header-header.ensures.header c.sealed_header-sealed.ensures.is_sealed)
    (c.put_commit.ensures.in_turn told)

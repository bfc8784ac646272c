use Rattle.std.proofs.Common.{sym, ap, ◌∙◌}
use Rattle.std.specs.Prelude.{IsTrue}
use Rattle.block_host.specs.Disk.{Image}
use Rattle.file_parts.specs.Held.{held}
use Rattle.file_open.proofs.NewState.{stands_by}
use Rattle.file_open.proofs.NewFile.{file_by, one_block}
use Rattle.file_open.proofs.new_store.open_new.Goals as goal

pub returns-clause-stands : goal.returns-clause-stands
returns-clause-stands g c new =
    let content = λ (tells : IsTrue g.H.Host.tells). ap (λ q. g.H.View.View.content q.view) c.of.ensures ∙ ap g.H.View.View.content c.new_parts-parts.ensures.view ∙ c.in-Ok-view.ensures.content tells in
    let files = λ (tells : IsTrue g.H.Host.tells). ap (λ q. (g.H.Host.disk q.host).files 1) c.of.ensures ∙ ap (λ h. (g.H.Host.disk h).files 1) c.new_parts-parts.ensures.host ∙ ap (λ (files : Image). files 1) (c.in-Ok-view.ensures.told tells).files in
    stands_by g.H.Host.tells c.args.limits c.requires.limits (g.H.Host.disk c.of.result.parts.host) (g.H.View.View.content c.of.result.parts.view)
    (λ tells. content tells ∙ sym (files tells)) (λ tells. one_block _ _ (new tells) (content tells))
    (held c.of.result.parts) (ap held c.of.ensures ∙ c.new_parts-parts.ensures.held)

pub returns-clause-file : goal.returns-clause-file
returns-clause-file g c new =
    file_by g.H.Host.tells c.args.limits (g.H.View.View.content c.of.result.parts.view) (g.H.Host.disk c.args.host).files
    (held c.of.result.parts) (ap held c.of.ensures ∙ c.new_parts-parts.ensures.held) new
    (λ tells. ap (λ q. g.H.View.View.content q.view) c.of.ensures ∙ ap g.H.View.View.content c.new_parts-parts.ensures.view ∙ c.in-Ok-view.ensures.content tells)

use Rattle.std.proofs.Common.{◌≡◌, ◌++◌, OnOk, subst, sym}
use Rattle.forest_model.specs.declared.refusal.Refusal.{Refusal}
use Rattle.script_text.specs.Words.{spaced}
use Rattle.script_text.specs.Replies.{refusal_words}
use Rattle.script_text.proofs.reply.put_refusal.Goals as goal

pub returns-in-KeyLength-clause-ok : goal.returns-in-KeyLength-clause-ok
unfolding refusal_words
returns-in-KeyLength-clause-ok c =
    subst (λ (why : Refusal). OnOk c.word-in-KeyLength.result (c.word-in-KeyLength.new.self ≡ c.args.out.now ++ spaced (refusal_words why))) (sym c.in-KeyLength.is) c.word-in-KeyLength.ensures.ok

pub returns-in-BodyLength-clause-ok : goal.returns-in-BodyLength-clause-ok
unfolding refusal_words
returns-in-BodyLength-clause-ok c =
    subst (λ (why : Refusal). OnOk c.word-in-BodyLength.result (c.word-in-BodyLength.new.self ≡ c.args.out.now ++ spaced (refusal_words why))) (sym c.in-BodyLength.is) c.word-in-BodyLength.ensures.ok

pub returns-in-Compacting-clause-ok : goal.returns-in-Compacting-clause-ok
unfolding refusal_words
returns-in-Compacting-clause-ok c =
    subst (λ (why : Refusal). OnOk c.named.result (c.named.new.self ≡ c.args.out.now ++ spaced (refusal_words why))) (sym c.in-Compacting.is) c.named.ensures.ok

pub returns-in-StoreCount-clause-ok : goal.returns-in-StoreCount-clause-ok
unfolding refusal_words
returns-in-StoreCount-clause-ok c =
    subst (λ (why : Refusal). OnOk c.word-in-StoreCount.result (c.word-in-StoreCount.new.self ≡ c.args.out.now ++ spaced (refusal_words why))) (sym c.in-StoreCount.is) c.word-in-StoreCount.ensures.ok

pub returns-in-NotCopied-clause-ok : goal.returns-in-NotCopied-clause-ok
unfolding refusal_words
returns-in-NotCopied-clause-ok c =
    subst (λ (why : Refusal). OnOk c.named-in-NotCopied.result (c.named-in-NotCopied.new.self ≡ c.args.out.now ++ spaced (refusal_words why))) (sym c.in-NotCopied.is) c.named-in-NotCopied.ensures.ok

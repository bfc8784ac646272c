use Rattle.header_chain.proofs.laws.chain_goes_on.Goals as goal

pub returns-clause-first : goal.returns-clause-first
returns-clause-first c revision file last older is linked = record { is_last = is.is_last; linked = linked }

pub returns-clause-last : goal.returns-clause-last
returns-clause-last c revision file last older headers = record { header = headers.linked.0; is_last = headers.is_last }

pub returns-clause-next : goal.returns-clause-next
returns-clause-next c revision file h before older linked = (linked.1, linked.2.0)

pub returns-clause-oldest : goal.returns-clause-oldest
returns-clause-oldest c revision file h linked = linked.1

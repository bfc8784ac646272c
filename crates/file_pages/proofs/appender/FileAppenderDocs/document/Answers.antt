use Rattle.file_pages.proofs.appender.FileAppenderDocs.document.Goals as goal

pub returns-clause-exact : goal.returns-clause-exact
returns-clause-exact g c tells rec has = c.record_of_view.ensures.exact (g.met.H.Host.views_tell tells) rec has

pub returns-clause-first : goal.returns-clause-first
returns-clause-first g c tells bare = c.record_of_view.ensures.first (g.met.H.Host.views_tell tells) bare

pub returns-clause-memory : goal.returns-clause-memory
returns-clause-memory g c tells is = c.record_of_view.ensures.memory (g.met.H.Host.views_tell tells) is

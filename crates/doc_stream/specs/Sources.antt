-- What a reader's source is.
use Rattle.std.specs.Prelude.{option_map}
use Rattle.doc_stream.specs.declared.reader.Source.{Source}
use Rattle.doc_stream.specs.Shown.{Asked}

abbrev pub asked_of : Source → Asked
asked_of source = record { revision = source.revision; tail = option_map (λ t. t.now) source.tail; end = source.end }

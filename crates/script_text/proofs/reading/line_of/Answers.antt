use Rattle.script_text.proofs.Lines.{text_takes_line, text_again_line, none_read}
use Rattle.script_text.proofs.reading.line_of.Goals as goal

pub returns-in-Ok-clause-found : goal.returns-in-Ok-clause-found
returns-in-Ok-clause-found c = text_takes_line c.args.server c.args.text.now (c.in-Ok.line, c.in-Ok.ensures.gives.0) c.in-Ok.ensures.gives.1

pub returns-in-Err-NotALine-clause-none : goal.returns-in-Err-NotALine-clause-none
returns-in-Err-NotALine-clause-none c = λ line is.
    let some = text_again_line c.args.server line c.args.text.now is in
    let none = none_read c.in-Err-NotALine.field-0 _ c.in-Err-NotALine.ensures.gives c.in-Err-NotALine.field-0-is in
    cc (some, none)

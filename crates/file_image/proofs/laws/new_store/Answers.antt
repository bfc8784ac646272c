use Rattle.file_image.proofs.NewFiles.{stands_new}
use Rattle.file_image.proofs.laws.new_store.Goals as goal

pub returns : goal.returns
returns c = stands_new

use Rattle.implib_link.proofs.Image.Files.{file_writes_inside}
use Rattle.implib_link.proofs.laws.image.writes_are_in_directory.Goals as goal

pub returns : goal.returns
returns c machine t bytes file gives n written d tables own wide loads is inside = file_writes_inside machine t bytes file gives tables own wide n written d loads inside

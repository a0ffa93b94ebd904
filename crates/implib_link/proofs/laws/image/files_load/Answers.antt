use Rattle.implib_link.proofs.Image.Files.{file_ends, file_loads}
use Rattle.implib_link.proofs.laws.image.files_load.Goals as goal

pub returns : goal.returns
returns c machine t bytes file gives tables own wide = (file_loads machine t bytes file gives tables own wide, file_ends machine t bytes file gives tables own wide)

use Rattle.implib_link.proofs.Image.Files.{file_holds}
use Rattle.implib_link.proofs.laws.image.files_hold_addresses.Goals as goal

pub returns : goal.returns
returns c machine t codes targets bytes file gives n written tables steady beside further own wide loads =
    file_holds machine t codes targets bytes file gives n written tables steady beside own wide loads further

use Rattle.implib_link.proofs.Image.Files.{file_keeps, file_leads}
use Rattle.implib_link.proofs.laws.image.fields_lead_in_files.Goals as goal

pub returns : goal.returns
returns c machine t codes targets bytes file gives n written tables steady beside own wide loads = (
  file_leads machine t codes targets bytes file gives n written tables steady beside own wide loads,
  file_keeps machine t codes targets bytes file gives n written tables steady beside own wide loads,
)

use Rattle.implib.proofs.Text.HeardNames.{heard_once, names_are_words, whole_of}
use Rattle.implib.proofs.laws.heard.text_is_heard.Goals as goal

pub returns : goal.returns
returns c = record {
  once = λ heard others first second. heard_once c.args.text.now heard others c.utf8.text first second;
  whole = λ tokens heard lexed is. whole_of c.args.text.now tokens heard c.utf8.text lexed is;
  names = λ machine definition heard parses is. names_are_words c.args.text.now machine definition heard c.utf8.text parses is;
}

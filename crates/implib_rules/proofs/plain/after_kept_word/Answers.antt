use Rattle.implib_rules.proofs.PlainWords.{word_keeps}
use Rattle.implib_rules.proofs.plain.after_kept_word.Goals as goal

pub returns-in-Word-clause-stays : goal.returns-in-Word-clause-stays
returns-in-Word-clause-stays c =
    rw c.after_word.ensures (word_keeps c.args.reading c.args.text.now c.in-Word.is).stays

pub returns-in-Word-clause-stayed : goal.returns-in-Word-clause-stayed
returns-in-Word-clause-stayed c =
    rw c.after_word.ensures (word_keeps c.args.reading c.args.text.now c.in-Word.is).stayed

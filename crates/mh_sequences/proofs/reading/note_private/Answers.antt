use Rattle.mh_sequences.proofs.Mentioning.{place_more}
use Rattle.mh_sequences.proofs.reading.note_private.Goals as goal

pub loop-index-preserved : goal.loop-index-preserved
loop-index-preserved c = place_more c.args.context.now c.loop-index.index c.args.ending.now c.args.mentions.now c.loop-index.mentions c.note_at.new.mentions c.in_ok-note_at.ensures c.loop-index.invariant

use Rattle.writer.proofs.Naming.{put_colon}
use Rattle.writer.proofs.name.put_name.Goals as goal

pub returns : goal.returns
returns c = record { put = put_colon c.args.text.now _ c.in-Some.q c.in-Some.ensures c.requires.2 c.put_string-n.ensures.put }

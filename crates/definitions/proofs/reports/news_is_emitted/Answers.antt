use Rattle.definitions.proofs.NewsLemmas.{emitted-news}
use Rattle.definitions.proofs.reports.news_is_emitted.Goals as goal

pub returns : goal.returns
returns c = emitted-news

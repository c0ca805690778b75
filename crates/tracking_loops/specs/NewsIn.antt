-- News of a whole window, and the code's news as the definitions' news.
use Rattle.std.specs.Prelude.{◌&&◌, not, Bool, if◌then◌else◌}
use Rattle.definitions.specs.Lock.{News as DefinedNews, nothing, lock, unlock, lost}
use Rattle.tracking_loops.specs.declared.news.News.{News}
use Rattle.tracking_loops.specs.declared.news.News.TheVariants.{Nothing, Lock, Unlock, Lost}

abbrev pub news_in : News → DefinedNews
news_in Nothing = nothing
news_in Lock = lock
news_in Unlock = unlock
news_in Lost = lost

-- what a whole window reports: whether the signal is lost with it, and whether the channel is
-- locked before it and with it
abbrev pub news_by : Bool → Bool → Bool → DefinedNews
news_by is_lost before now =
    if is_lost then lost
    else if now && not before then lock
    else if before && not now then unlock
    else nothing

mod AloneLemmas
mod AnswerLemmas
mod KindLemmas
mod NanLemmas

pub mod PagesWithBit
pub mod PushNews

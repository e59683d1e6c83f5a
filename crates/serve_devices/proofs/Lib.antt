mod ChannelLemmas
mod IngressLemmas
